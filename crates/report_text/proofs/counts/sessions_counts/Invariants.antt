use Rattle.std.proofs.Common.{◌+◌, ◌-◌, length}
use Rattle.report_text.specs.Meaning.{session_counts, lines_from}
use Rattle.report_text.proofs.WriteLemmas.{Progress}
use Rattle.report_text.proofs.counts.sessions_counts.Given as goal

abbrev pub invariant-loop-i : goal.invariant-loop-i
invariant-loop-i g l = Progress g.K.Sink.written g.K.Sink.faults l.initial.sink l.sink (lines_from (session_counts l.job l.tables (g.R.FactCounts.count_of l.counts)) (l.i + 1) (length l.job.sessions - l.i)) (lines_from (session_counts l.job l.tables (g.R.FactCounts.count_of l.counts)) 1 (length l.job.sessions))
