use Rattle.std.proofs.Common.{◌≡◌, ◌+◌, drop}
use Rattle.evidence_check.specs.Meaning.{facts_of_places}
use Rattle.evidence_check.proofs.counting.facts_of_places.Given as goal

abbrev pub invariant-loop-i : goal.invariant-loop-i
invariant-loop-i l = l.count + facts_of_places (drop l.i l.places) ≡ facts_of_places l.places
