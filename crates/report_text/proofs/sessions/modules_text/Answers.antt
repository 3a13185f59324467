use Rattle.std.specs.List.{flat_map}
use Rattle.std.proofs.lemmas.List.{at_drop_more}
use Rattle.report_text.specs.Meaning.{module_lines}
use Rattle.report_text.proofs.WriteLemmas.{progress_at, progress_more, progress_exit}
use Rattle.report_text.proofs.sessions.modules_text.Goals as goal

pub returns-in_err-module_text : goal.returns-in_err-module_text
returns-in_err-module_text g c =
    let part = module_lines c.args.job.now c.args.tables.now (g.R.FactSets.set_of c.args.sets.now c.args.s.0) in
    progress_exit _ c.from_residual.ensures.0 c.in_err-module_text.ensures (progress_at (at_drop_more (flat_map part) c.args.modules.now c.loop-m.m-index 0 c.loop-m-test.true) c.loop-m.invariant)

pub loop-m-preserved : goal.loop-m-preserved
loop-m-preserved g c =
    let part = module_lines c.args.job.now c.args.tables.now (g.R.FactSets.set_of c.args.sets.now c.args.s.0) in
    progress_more c.in_ok-module_text.ensures (progress_at (at_drop_more (flat_map part) c.args.modules.now c.loop-m.m-index 0 c.loop-m-test.true) c.loop-m.invariant)
