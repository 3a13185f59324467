use Rattle.std.specs.List.{flat_map}
use Rattle.std.proofs.lemmas.List.{at_drop_more}
use Rattle.report_text.specs.Meaning.{module_counts}
use Rattle.report_text.proofs.WriteLemmas.{progress_at, progress_more, progress_exit}
use Rattle.report_text.proofs.counts.modules_counts.Goals as goal

pub returns-in_err-module_counts : goal.returns-in_err-module_counts
returns-in_err-module_counts g c =
    let part = module_counts c.args.job.now c.args.tables.now (g.R.FactCounts.count_of c.args.counts.now c.args.s.0) in
    progress_exit _ c.from_residual.ensures.0 c.in_err-module_counts.ensures (progress_at (at_drop_more (flat_map part) c.args.modules.now c.loop-m.m-index 0 c.loop-m-test.true) c.loop-m.invariant)

pub loop-m-preserved : goal.loop-m-preserved
loop-m-preserved g c =
    let part = module_counts c.args.job.now c.args.tables.now (g.R.FactCounts.count_of c.args.counts.now c.args.s.0) in
    progress_more c.in_ok-module_counts.ensures (progress_at (at_drop_more (flat_map part) c.args.modules.now c.loop-m.m-index 0 c.loop-m-test.true) c.loop-m.invariant)
