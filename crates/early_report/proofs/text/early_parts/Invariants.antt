use Rattle.std.proofs.Common.{◌+◌, ◌-◌, length, map}
use Rattle.report_text.specs.Meaning.{lines_from}
use Rattle.report_text.proofs.Laws.{Progress}
use Rattle.early_report.specs.Meaning.{early_part}
use Rattle.early_report.specs.Text.{drained_of}
use Rattle.early_report.proofs.text.early_parts.Given as goal

abbrev pub invariant-loop-i : goal.invariant-loop-i
invariant-loop-i g l = Progress g.K.Sink.written g.K.Sink.faults l.initial.sink l.sink (lines_from (early_part l.job l.tables (g.R.FactSets.set_of l.sets) (drained_of l.job (map (λ v. v.items) l.lists))) (l.i + 1) (length l.job.sessions - l.i)) (lines_from (early_part l.job l.tables (g.R.FactSets.set_of l.sets) (drained_of l.job (map (λ v. v.items) l.lists))) 1 (length l.job.sessions))
