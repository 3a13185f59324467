use Rattle.std.proofs.Common.{◌≡◌, ◌<◌, length, ◌∙◌, arith}
use Rattle.std.proofs.lemmas.List.{get_or_read}
use Rattle.report_text.proofs.Laws.{lines_from-next, lines_from-end, progress_at, progress_more, progress_exit, progress_end}
use Rattle.task_ends.proofs.Parts.{unlisted_part}
use Rattle.task_ends.proofs.text.modules_text.Goals as goal

pub returns-in_err-module_text : goal.returns-in_err-module_text
returns-in_err-module_text g c = λ each unlisted is.
    let lines = unlisted_part c.args.job.now unlisted in
    let m = c.loop-m.m in
    let here : m < length c.args.job.now.images = omega (arith, c.loop-m-test.true, c.module_count-m-end.ensures.value) in
    let value : c.index.result.now ≡ unlisted m = get_or_read c.args.ends.now.unlisted.items m c.index.result.now (omega (arith, here, is.modules)) c.index.ensures 0 ∙ is.each_module m here in
    progress_exit _ c.from_residual.ensures.0 (rw value at c.in_err-module_text.ensures) (progress_at (lines_from-next lines m m (length c.args.job.now.images) here) (c.loop-m.invariant each unlisted is))

pub loop-m-preserved : goal.loop-m-preserved
loop-m-preserved g c = λ each unlisted is.
    let lines = unlisted_part c.args.job.now unlisted in
    let m = c.loop-m.m in
    let here : m < length c.args.job.now.images = omega (arith, c.loop-m-test.true, c.module_count-m-end.ensures.value) in
    let value : c.index.result.now ≡ unlisted m = get_or_read c.args.ends.now.unlisted.items m c.index.result.now (omega (arith, here, is.modules)) c.index.ensures 0 ∙ is.each_module m here in
    progress_more (rw value at c.in_ok-module_text.ensures) (progress_at (lines_from-next lines m m (length c.args.job.now.images) here) (c.loop-m.invariant each unlisted is))

pub returns : goal.returns
returns g c = λ each unlisted is.
    progress_end (progress_at (lines_from-end (unlisted_part c.args.job.now unlisted) c.loop-m.m c.loop-m.m (length c.args.job.now.images) (omega (arith, c.loop-m-test.false, c.module_count-m-end.ensures.value))) (c.loop-m.invariant each unlisted is))
