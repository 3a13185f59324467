use Rattle.std.proofs.Common.{◌∙◌, ap, if◌then◌else◌, arith}
use Rattle.cov_base.specs.Meaning.{FactSet, full_of}
use Rattle.module_area.specs.Meaning.{fact_count}
use Rattle.module_area.specs.declared.places.Place.{Place}
use Rattle.report_text.specs.Meaning.{lacks}
use Rattle.report_text.proofs.PlaceFacts.{executed_at, facts_at, possible_at, sum_step}
use Rattle.report_text.proofs.sessions.count.Goals as goal

pub loop-n-preserved : goal.loop-n-preserved
loop-n-preserved g c =
    let sets = g.R.FactSets.set_of c.args.sets.now c.args.s.0 in
    let before = c.loop-n.invariant in
    let n = c.loop-n.n in
    record {
      executed = sum_step (executed_at sets) n c.args.past _ _ _ c.loop-n-test.true (c.count_executed.ensures.value ∙ ap (λ (s : FactSet). if lacks s then 0 else 1) c.set-set.ensures) before.executed;
      facts = sum_step (facts_at sets) n c.args.past _ _ _ c.loop-n-test.true (c.count_facts.ensures.value ∙ ap fact_count c.set-set.ensures) before.facts;
      possible = sum_step (possible_at c.args.tables.now.places) n c.args.past _ _ _ c.loop-n-test.true (c.count_possible.ensures.value ∙ ap (λ (p : Place). fact_count (full_of p.kind)) c.place.ensures.value) before.possible;
      few_executed = omega (arith, before.few_executed, c.count_executed.ensures.most);
      few_facts = omega (arith, before.few_facts, c.count_facts.ensures.most);
      few_possible = omega (arith, before.few_possible, c.count_possible.ensures.most);
    }
