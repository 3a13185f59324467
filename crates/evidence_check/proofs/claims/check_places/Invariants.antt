use Rattle.evidence_check.specs.Found.{found_at}
use Rattle.evidence_check.proofs.CheckLemmas.{PlacesSoFar}
use Rattle.evidence_check.proofs.claims.check_places.Given as goal

abbrev pub invariant-loop-i : goal.invariant-loop-i
invariant-loop-i l = PlacesSoFar l.bytes (found_at l.found) l.from l.row l.first l.places l.at l.i
