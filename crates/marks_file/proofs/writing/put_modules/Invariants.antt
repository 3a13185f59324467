use Rattle.std.proofs.Common.{drop, ◌++◌}
use Rattle.std.specs.List.{flat_map}
use Rattle.marks_file.specs.Meaning.{module_bytes}
use Rattle.cov_outside.proofs.Laws.{Progress}
use Rattle.marks_file.proofs.writing.put_modules.Given as goal

abbrev pub invariant-loop-i : goal.invariant-loop-i
invariant-loop-i g l = Progress g.K.Sink.written g.K.Sink.faults l.initial.sink l.sink (l.buffer ++ flat_map module_bytes (drop l.i l.modules)) (l.initial.buffer ++ flat_map module_bytes l.modules)
