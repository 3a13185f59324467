use Rattle.std.proofs.Common.{◌≡◌, map, take}
use Rattle.cov_base.specs.declared.numbers.TaskNo.{TaskNo}
use Rattle.early_report.specs.Meaning.{others}
use Rattle.early_report.proofs.drains.entries.Given as goal

abbrev pub invariant-loop-task : goal.invariant-loop-task
invariant-loop-task l = l.entries.items ≡ map (λ (u : TaskNo). (u, 0)) (others (take l.task-index l.tasks) l.by.0)
