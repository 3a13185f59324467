use Rattle.evidence_check.specs.Found.{found_at}
use Rattle.evidence_check.proofs.CheckLemmas.{ModulesSoFar}
use Rattle.evidence_check.proofs.claims.check_modules.Given as goal

abbrev pub invariant-loop-i : goal.invariant-loop-i
invariant-loop-i l = ModulesSoFar l.bytes l.tables (found_at l.found) l.modules l.numbers l.at l.row l.i
