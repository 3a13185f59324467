use Rattle.std.proofs.Common.{◌≡◌, map, take, nat_eq}
use Rattle.std.specs.List.{filter}
use Rattle.cov_base.specs.declared.numbers.SessNo.{SessNo}
use Rattle.module_area.specs.Meaning.{ControlledView, number_of}
use Rattle.early_report.specs.Drains.{unused}
use Rattle.early_report.proofs.runner.make_drains.Given as goal

abbrev pub invariant-loop-c : goal.invariant-loop-c
invariant-loop-c l = l.drains.items ≡ map (λ (s : SessNo). unused l.plan s.0) (map number_of (filter (λ (c : ControlledView). nat_eq c.by l.task.0) (take l.c-index l.c-items)))
