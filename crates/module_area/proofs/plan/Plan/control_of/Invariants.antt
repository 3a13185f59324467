use Rattle.std.proofs.Common.{◌≡◌, map, take, nat_eq}
use Rattle.std.specs.List.{filter}
use Rattle.module_area.specs.Meaning.{ControlledView, number_of}
use Rattle.module_area.proofs.plan.Plan.control_of.Given as goal

abbrev pub invariant-loop-c : goal.invariant-loop-c
invariant-loop-c l = l.sessions.items ≡ map number_of (filter (λ (c : ControlledView). nat_eq c.by l.task.0) (take l.c-index l.c-items))
