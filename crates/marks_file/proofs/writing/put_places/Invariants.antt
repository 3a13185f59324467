use Rattle.std.proofs.Common.{drop, ◌++◌}
use Rattle.std.specs.List.{flat_map}
use Rattle.marks_file.specs.Meaning.{place_bytes}
use Rattle.cov_outside.proofs.Laws.{Progress}
use Rattle.marks_file.proofs.writing.put_places.Given as goal

abbrev pub invariant-loop-i : goal.invariant-loop-i
invariant-loop-i g l = Progress g.K.Sink.written g.K.Sink.faults l.initial.sink l.sink (l.buffer ++ flat_map place_bytes (drop l.i l.places)) (l.initial.buffer ++ flat_map place_bytes l.places)
