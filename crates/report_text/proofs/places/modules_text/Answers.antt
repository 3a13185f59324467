use Rattle.std.proofs.Common.{◌<◌, length, arith}
use Rattle.report_text.specs.Meaning.{table_part}
use Rattle.report_text.proofs.RowLemmas.{lines_from-next}
use Rattle.report_text.proofs.WriteLemmas.{progress_at, progress_more, progress_exit}
use Rattle.report_text.proofs.places.modules_text.Goals as goal

pub returns-in_err-module_text : goal.returns-in_err-module_text
returns-in_err-module_text g c =
    let lines = table_part c.args.job.now c.args.tables.now in
    let m = c.loop-m.m in
    let here : m < length c.args.job.now.images = omega arith in
    progress_exit _ c.from_residual.ensures.0 c.in_err-module_text.ensures (progress_at (lines_from-next lines m m (length c.args.job.now.images) here) c.loop-m.invariant)

pub loop-m-preserved : goal.loop-m-preserved
loop-m-preserved g c =
    let lines = table_part c.args.job.now c.args.tables.now in
    let m = c.loop-m.m in
    let here : m < length c.args.job.now.images = omega arith in
    progress_more c.in_ok-module_text.ensures (progress_at (lines_from-next lines m m (length c.args.job.now.images) here) c.loop-m.invariant)
