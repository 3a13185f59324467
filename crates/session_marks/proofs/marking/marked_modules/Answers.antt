use Rattle.std.proofs.lemmas.List.Elements.{All-push}
use Rattle.session_marks.specs.Fields.{HasGoodFields}
use Rattle.session_marks.specs.Meaning.{marked_module}
use Rattle.session_marks.proofs.ModuleLemmas.{mapped_step}
use Rattle.session_marks.proofs.marking.marked_modules.Goals as goal

pub loop-m-preserved : goal.loop-m-preserved
loop-m-preserved g c =
    let f = marked_module c.args.job.now c.args.tables.now (g.R.FactSets.set_of c.args.sets.now c.args.s.0) in
    let before = c.loop-m.invariant in
    let pushed = c.in_ok-push.ensures.items in
    record {
      items = mapped_step f c.args.modules.now c.loop-m.m-index 0 c.loop-m.marked.items c.push.new.self.items c.in_ok-marked_module.field-0 c.loop-m-test.true before.items pushed c.in_ok-marked_module.ensures.value;
      fields = rw pushed (All-push HasGoodFields c.loop-m.marked.items c.in_ok-marked_module.field-0 before.fields c.in_ok-marked_module.ensures.fields);
    }
