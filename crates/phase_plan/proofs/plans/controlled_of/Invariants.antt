use Rattle.std.proofs.Common.{◌≡◌, ◌++◌, ◌+◌, drop}
use Rattle.phase_plan.specs.Meaning.{controlled_from}
use Rattle.phase_plan.proofs.plans.controlled_of.Given as goal

abbrev pub invariant-loop-i : goal.invariant-loop-i
invariant-loop-i l = l.controlled.items ++ controlled_from (l.i + 1) (drop l.i l.sessions) l.places l.phase ≡ controlled_from 1 l.sessions l.places l.phase
