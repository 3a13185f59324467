use Rattle.std.proofs.Common.{◌≡◌, take}
use Rattle.phase_plan.proofs.plans.places_of.Given as goal

abbrev pub invariant-loop-n : goal.invariant-loop-n
invariant-loop-n l = l.places.items ≡ take l.n l.tables.places
