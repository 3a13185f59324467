use Rattle.std.proofs.Common.{ℕ, ◌-◌, length}
use Rattle.report_text.specs.Meaning.{lines_from}
use Rattle.report_text.proofs.Laws.{Progress}
use Rattle.task_run.specs.declared.task.TaskEnd.{TaskEnd}
use Rattle.task_ends.specs.Ends.{AreEnds}
use Rattle.task_ends.proofs.Parts.{unlisted_part}
use Rattle.task_ends.proofs.text.modules_text.Given as goal

abbrev pub invariant-loop-m : goal.invariant-loop-m
invariant-loop-m g l = (each : ℕ → TaskEnd) (unlisted : ℕ → ℕ) → AreEnds l.job each unlisted l.ends →
    Progress g.K.Sink.written g.K.Sink.faults l.initial.sink l.sink (lines_from (unlisted_part l.job unlisted) l.m (length l.job.images - l.m)) (lines_from (unlisted_part l.job unlisted) 0 (length l.job.images))
