use Rattle.std.proofs.Common.{◌-◌, length}
use Rattle.report_text.specs.Meaning.{task_part, lines_from}
use Rattle.report_text.proofs.WriteLemmas.{Progress}
use Rattle.report_text.proofs.whole.tasks_text.Given as goal

abbrev pub invariant-loop-t : goal.invariant-loop-t
invariant-loop-t g l = Progress g.K.Sink.written g.K.Sink.faults l.initial.sink l.sink (lines_from (task_part l.job (g.R.Results.result_of l.results)) l.t (length l.job.tasks - l.t)) (lines_from (task_part l.job (g.R.Results.result_of l.results)) 0 (length l.job.tasks))
