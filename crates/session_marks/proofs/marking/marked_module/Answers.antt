use Rattle.std.proofs.Common.{rules, ◌≡◌, length, true, ap, ◌∙◌, arith}
use Rattle.cov_base.specs.Meaning.{ImageView, is_filled}
use Rattle.session_marks.proofs.ModuleLemmas.{AreTabled, from_base, module_fields}
use Rattle.session_marks.proofs.marking.marked_module.Goals as goal

pub marked_places-requires-clause-from : goal.marked_places-requires-clause-from
marked_places-requires-clause-from g c n from to =
    let all = c.range-first.ensures.all in
    let at = from_base c.args.job.now c.args.tables.now c.args.m c.requires.tables all n (omega (arith, c.range-first.ensures.first)) (omega (arith, c.range-first.ensures.past)) in
    let base = ap (λ (i : ImageView). i.base) (c.image.view_is ∙ c.image_of-image.ensures.value) in
    omega (arith, at, base, c.get-base.ensures.value)

pub returns-clause-fields : goal.returns-clause-fields
returns-clause-fields g c =
    let name : is_filled c.name_of.result ≡ true = search rules in
    let image = c.image_of-image.result.now in
    let base : c.get-base.result ≡ image.base = c.get-base.ensures.value ∙ ap (λ (i : ImageView). i.base) c.image.view_is in
    let size : c.len.result ≡ length image.bytes = omega (arith, c.len.ensures, c.image.inside.bytes.ok.0, ap (λ (i : ImageView). length i.bytes) c.image.view_is) in
    let are : AreTabled c.args.job.now c.args.tables.now = record { job = c.image_of-image.ensures.job; are = c.requires.tables; places = c.range-first.ensures.all } in
    module_fields c.args.job.now c.args.tables.now (g.R.FactSets.set_of c.args.sets.now c.args.s.0) c.args.m c.get-base.result c.len.result c.range-first.result.0 c.range-first.result.1 image c.name_of.result c.in_ok-places.places.items
    are c.requires.module c.requires.within c.image_of-image.ensures.value base size c.range-first.ensures.first c.range-first.ensures.past c.in_ok-places.ensures.value c.in_ok-places.ensures.halfwords name
