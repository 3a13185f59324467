use Rattle.std.proofs.Common.{◌<◌, length, ap, arith}
use Rattle.session_book.specs.Meaning.{JobView}
use Rattle.report_text.specs.Meaning.{task_part}
use Rattle.report_text.proofs.RowLemmas.{lines_from-next}
use Rattle.report_text.proofs.WriteLemmas.{progress_at, progress_more, progress_exit}
use Rattle.report_text.proofs.whole.tasks_text.Goals as goal

pub returns-in_err-task_text : goal.returns-in_err-task_text
returns-in_err-task_text g c =
    let lines = task_part c.args.job.now (g.R.Results.result_of c.args.results.now) in
    let t = c.loop-t.t in
    let here : t < length c.args.job.now.tasks = omega (arith, ap (λ (j : JobView). length j.tasks) c.job.view_is, c.job.inside.tasks.ok.0) in
    progress_exit _ c.from_residual.ensures.0 c.in_err-task_text.ensures (progress_at (lines_from-next lines t t (length c.args.job.now.tasks) here) c.loop-t.invariant)

pub loop-t-preserved : goal.loop-t-preserved
loop-t-preserved g c =
    let lines = task_part c.args.job.now (g.R.Results.result_of c.args.results.now) in
    let t = c.loop-t.t in
    let here : t < length c.args.job.now.tasks = omega (arith, ap (λ (j : JobView). length j.tasks) c.job.view_is, c.job.inside.tasks.ok.0) in
    progress_more c.in_ok-task_text.ensures (progress_at (lines_from-next lines t t (length c.args.job.now.tasks) here) c.loop-t.invariant)
