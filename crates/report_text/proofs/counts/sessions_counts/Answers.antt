use Rattle.std.proofs.Common.{◌+◌, ◌<◌, length, ap, arith}
use Rattle.session_book.specs.Meaning.{JobView}
use Rattle.report_text.specs.Meaning.{session_counts}
use Rattle.report_text.proofs.RowLemmas.{lines_from-next}
use Rattle.report_text.proofs.WriteLemmas.{progress_at, progress_more, progress_exit}
use Rattle.report_text.proofs.counts.sessions_counts.Goals as goal

pub returns-in_err-session_counts : goal.returns-in_err-session_counts
returns-in_err-session_counts g c =
    let lines = session_counts c.args.job.now c.args.tables.now (g.R.FactCounts.count_of c.args.counts.now) in
    let i = c.loop-i.i in
    let here : i < length c.args.job.now.sessions = omega (arith, ap (λ (j : JobView). length j.sessions) c.job.view_is, c.job.inside.sessions.ok.0) in
    progress_exit _ c.from_residual.ensures.0 c.in_err-session_counts.ensures (progress_at (lines_from-next lines (i + 1) i (length c.args.job.now.sessions) here) c.loop-i.invariant)

pub loop-i-preserved : goal.loop-i-preserved
loop-i-preserved g c =
    let lines = session_counts c.args.job.now c.args.tables.now (g.R.FactCounts.count_of c.args.counts.now) in
    let i = c.loop-i.i in
    let here : i < length c.args.job.now.sessions = omega (arith, ap (λ (j : JobView). length j.sessions) c.job.view_is, c.job.inside.sessions.ok.0) in
    progress_more c.in_ok-session_counts.ensures (progress_at (lines_from-next lines (i + 1) i (length c.args.job.now.sessions) here) c.loop-i.invariant)
