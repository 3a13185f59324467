use Rattle.std.proofs.Common.{◌≡◌, ◌<◌, length, ◌∙◌, arith}
use Rattle.report_text.proofs.Laws.{lines_from-next, lines_from-end, progress_at, progress_more, progress_exit, progress_end}
use Rattle.task_ends.proofs.Parts.{end_part}
use Rattle.task_ends.proofs.text.tasks_text.Goals as goal

pub returns-in_err-task_text : goal.returns-in_err-task_text
returns-in_err-task_text g c = λ each unlisted is.
    let lines = end_part c.args.job.now each in
    let t = c.loop-t.t in
    let here : t < length c.args.job.now.tasks = omega (arith, c.loop-t-test.true, c.task_count-t-end.ensures.value) in
    let value : c.index.result.now ≡ each t = c.index.ensures ∙ is.each_task t c.index.result.now here in
    progress_exit _ c.from_residual.ensures.0 (rw value at c.in_err-task_text.ensures) (progress_at (lines_from-next lines t t (length c.args.job.now.tasks) here) (c.loop-t.invariant each unlisted is))

pub loop-t-preserved : goal.loop-t-preserved
loop-t-preserved g c = λ each unlisted is.
    let lines = end_part c.args.job.now each in
    let t = c.loop-t.t in
    let here : t < length c.args.job.now.tasks = omega (arith, c.loop-t-test.true, c.task_count-t-end.ensures.value) in
    let value : c.index.result.now ≡ each t = c.index.ensures ∙ is.each_task t c.index.result.now here in
    progress_more (rw value at c.in_ok-task_text.ensures) (progress_at (lines_from-next lines t t (length c.args.job.now.tasks) here) (c.loop-t.invariant each unlisted is))

pub returns : goal.returns
returns g c = λ each unlisted is.
    progress_end (progress_at (lines_from-end (end_part c.args.job.now each) c.loop-t.t c.loop-t.t (length c.args.job.now.tasks) (omega (arith, c.loop-t-test.false, c.task_count-t-end.ensures.value))) (c.loop-t.invariant each unlisted is))
