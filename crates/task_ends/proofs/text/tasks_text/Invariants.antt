use Rattle.std.proofs.Common.{ℕ, ◌-◌, length}
use Rattle.report_text.specs.Meaning.{lines_from}
use Rattle.report_text.proofs.Laws.{Progress}
use Rattle.task_run.specs.declared.task.TaskEnd.{TaskEnd}
use Rattle.task_ends.specs.Ends.{AreEnds}
use Rattle.task_ends.proofs.Parts.{end_part}
use Rattle.task_ends.proofs.text.tasks_text.Given as goal

abbrev pub invariant-loop-t : goal.invariant-loop-t
invariant-loop-t g l = (each : ℕ → TaskEnd) (unlisted : ℕ → ℕ) → AreEnds l.job each unlisted l.ends →
    Progress g.K.Sink.written g.K.Sink.faults l.initial.sink l.sink (lines_from (end_part l.job each) l.t (length l.job.tasks - l.t)) (lines_from (end_part l.job each) 0 (length l.job.tasks))
