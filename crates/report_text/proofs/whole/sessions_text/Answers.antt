use Rattle.std.proofs.Common.{◌+◌, ◌<◌, length, ap, arith}
use Rattle.session_book.specs.Meaning.{JobView}
use Rattle.report_text.specs.Meaning.{session_part}
use Rattle.report_text.proofs.RowLemmas.{lines_from-next}
use Rattle.report_text.proofs.WriteLemmas.{progress_at, progress_more, progress_exit}
use Rattle.report_text.proofs.whole.sessions_text.Goals as goal

pub returns-in_err-session_part : goal.returns-in_err-session_part
returns-in_err-session_part g c =
    let lines = session_part c.args.job.now c.args.tables.now (g.R.FactSets.set_of c.args.sets.now) in
    let i = c.loop-i.i in
    let here : i < length c.args.job.now.sessions = omega (arith, ap (λ (j : JobView). length j.sessions) c.job.view_is, c.job.inside.sessions.ok.0) in
    progress_exit {piece = lines (i + 1)} _ c.from_residual.ensures.0 (record { as_text = c.in_err-session_part.ensures }) (progress_at (lines_from-next lines (i + 1) i (length c.args.job.now.sessions) here) c.loop-i.invariant)

pub loop-i-preserved : goal.loop-i-preserved
loop-i-preserved g c =
    let lines = session_part c.args.job.now c.args.tables.now (g.R.FactSets.set_of c.args.sets.now) in
    let i = c.loop-i.i in
    let here : i < length c.args.job.now.sessions = omega (arith, ap (λ (j : JobView). length j.sessions) c.job.view_is, c.job.inside.sessions.ok.0) in
    progress_more {piece = lines (i + 1)} (record { as_text = c.in_ok-session_part.ensures }) (progress_at (lines_from-next lines (i + 1) i (length c.args.job.now.sessions) here) c.loop-i.invariant)
