use Rattle.std.proofs.Common.{◌∙◌, arith}
use Rattle.report_text.proofs.PlaceFacts.{done_at, sum_step}
use Rattle.report_text.proofs.trial.count_done.Goals as goal

pub loop-t-preserved : goal.loop-t-preserved
loop-t-preserved g c =
    let results = g.R.Results.result_of c.args.results.now in
    let before = c.loop-t.invariant in
    record { total = sum_step (done_at results) c.loop-t.t c.args.tasks _ _ _ c.loop-t-test.true (c.from-total.ensures ∙ c.done.ensures) before.total; fits = omega (arith, before.fits) }
