use Rattle.std.proofs.Common.{◌≡◌, ◌+◌, ◌-◌, ◌<◌, length, map, ap, arith}
use Rattle.session_book.specs.Meaning.{JobView}
use Rattle.report_text.proofs.Laws.{lines_from-next, progress_start, progress_at, progress_more, progress_exit}
use Rattle.early_report.specs.Meaning.{early_part}
use Rattle.early_report.specs.Text.{drained_of}
use Rattle.early_report.proofs.text.early_parts.Goals as goal

pub loop-i-init : goal.loop-i-init
loop-i-init g c = let whole : length c.args.job.now.sessions - 0 ≡ length c.args.job.now.sessions = omega arith in rw whole progress_start

pub returns-in_err-early_part : goal.returns-in_err-early_part
returns-in_err-early_part g c =
    let lines = early_part c.args.job.now c.args.tables.now (g.R.FactSets.set_of c.args.sets.now) (drained_of c.args.job.now (map (λ v. v.items) c.args.lists.now)) in
    let i = c.loop-i.i in
    let here : i < length c.args.job.now.sessions = omega (arith, ap (λ (j : JobView). length j.sessions) c.job.view_is, c.job.inside.sessions.ok.0) in
    progress_exit _ c.from_residual.ensures.0 c.in_err-early_part.ensures (progress_at (lines_from-next lines (i + 1) i (length c.args.job.now.sessions) here) c.loop-i.invariant)

pub loop-i-preserved : goal.loop-i-preserved
loop-i-preserved g c =
    let lines = early_part c.args.job.now c.args.tables.now (g.R.FactSets.set_of c.args.sets.now) (drained_of c.args.job.now (map (λ v. v.items) c.args.lists.now)) in
    let i = c.loop-i.i in
    let here : i < length c.args.job.now.sessions = omega (arith, ap (λ (j : JobView). length j.sessions) c.job.view_is, c.job.inside.sessions.ok.0) in
    progress_more c.in_ok-early_part.ensures (progress_at (lines_from-next lines (i + 1) i (length c.args.job.now.sessions) here) c.loop-i.invariant)
