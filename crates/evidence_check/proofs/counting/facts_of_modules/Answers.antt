use Rattle.std.proofs.Common.{◌≡◌, length, ◌∙◌, ap, arith}
use Rattle.marks_file.specs.Meaning.{MarkedView}
use Rattle.evidence_check.specs.Meaning.{facts_of_places}
use Rattle.evidence_check.proofs.CountLemmas.{places_within, count_module, facts_of_modules-most}
use Rattle.evidence_check.proofs.counting.facts_of_modules.Goals as goal

pub facts_of_places-count-requires : goal.facts_of_places-count-requires
facts_of_places-count-requires c =
    let m = c.index-modules-i.result in
    let same : c.deref.result.now ≡ m.places = c.deref.ensures.value ∙ ap (λ (x : MarkedView). x.places) c.marked.view_is in
    let within = places_within c.args.modules.now c.loop-i.i m c.loop-i-test.true in
    omega (arith, within, c.requires, ap length same, ap (λ (x : MarkedView). length x.places) c.index-modules-i.is)

pub overflow_add-count : goal.overflow_add-count
overflow_add-count c =
    let m = c.index-modules-i.result in
    let same : c.deref.result.now ≡ m.places = c.deref.ensures.value ∙ ap (λ (x : MarkedView). x.places) c.marked.view_is in
    let next = count_module c.args.modules.now c.loop-i.i c.loop-i.count c.facts_of_places-count.result m c.loop-i-test.true c.loop-i.invariant
    (c.facts_of_places-count.ensures ∙ ap facts_of_places (same ∙ ap (λ (x : MarkedView). x.places) c.index-modules-i.is)) in
    omega (arith, next, facts_of_modules-most c.args.modules.now, c.requires)
