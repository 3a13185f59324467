use Rattle.std.proofs.Common.{◌-◌, ◌++◌}
use Rattle.cov_outside.proofs.Laws.{Progress}
use Rattle.evidence_check.specs.Meaning.{places_entries}
use Rattle.evidence_check.specs.Found.{found_at}
use Rattle.evidence_check.proofs.writing.put_places.Given as goal

abbrev pub invariant-loop-n : goal.invariant-loop-n
invariant-loop-n g l = Progress g.K.Sink.written g.K.Sink.faults l.initial.sink l.sink (l.buffer ++ places_entries (found_at l.found) l.n (l.past - l.n)) (l.initial.buffer ++ places_entries (found_at l.found) l.first (l.past - l.first))
