use Rattle.std.proofs.Common.{◌≡◌, ◌++◌, drop}
use Rattle.phase_plan.specs.Meaning.{tasks_from}
use Rattle.phase_plan.proofs.plans.tasks_of.Given as goal

abbrev pub invariant-loop-i : goal.invariant-loop-i
invariant-loop-i l = l.numbers.items ++ tasks_from l.i (drop l.i l.tasks) l.phase ≡ tasks_from 0 l.tasks l.phase
