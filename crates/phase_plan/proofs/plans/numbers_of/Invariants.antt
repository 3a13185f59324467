use Rattle.std.proofs.Common.{◌≡◌, ◌++◌, drop}
use Rattle.phase_plan.specs.Meaning.{places_from}
use Rattle.phase_plan.proofs.plans.numbers_of.Given as goal

abbrev pub invariant-loop-i : goal.invariant-loop-i
invariant-loop-i l = l.numbers.items ++ places_from l.i (drop l.i l.places) l.modules ≡ places_from 0 l.places l.modules
