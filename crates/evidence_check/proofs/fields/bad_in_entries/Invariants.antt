use Rattle.evidence_check.proofs.FieldLemmas.{EntriesSoFar}
use Rattle.evidence_check.proofs.fields.bad_in_entries.Given as goal

abbrev pub invariant-loop-i : goal.invariant-loop-i
invariant-loop-i l = EntriesSoFar l.bytes l.tasks l.from l.count l.at l._i
