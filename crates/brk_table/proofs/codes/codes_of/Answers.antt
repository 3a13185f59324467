use Rattle.std.proofs.Common.{◌≡◌, ◌<◌, length, get_or, sym, ap, subst, ◌∙◌, arith}
use Rattle.std.proofs.lemmas.List.{get_or_default}
use Rattle.cov_base.specs.Meaning.{ImageView}
use Rattle.module_area.specs.Meaning.{no_place, place_of}
use Rattle.module_area.specs.declared.places.Place.{Place}
use Rattle.brk_table.specs.Kept.{code_in, IsCodeOf}
use Rattle.brk_table.specs.Places.{IsIn}
use Rattle.brk_table.proofs.CodeLemmas.{first_more}
use Rattle.brk_table.proofs.codes.codes_of.Goals as goal

pub loop-i-preserved : goal.loop-i-preserved
loop-i-preserved c =
    let here : c.loop-i.i < length c.args.places.now = omega arith in
    let p : Place = c.index-places-i.result in
    let same : place_of c.args.places.now c.loop-i.i ≡ p = get_or_default c.args.places.now c.loop-i.i no_place p here ∙ sym c.index-places-i.is in
    let inside : IsIn c.args.images.now p = subst (IsIn c.args.images.now) (sym c.index-places-i.is) (c.requires c.loop-i.i p here) in
    let image : c.index.result.now ≡ inside.image =
    c.index.ensures ∙ (ap (λ is. get_or is p.module c.index.result.now) c.images.view_is ∙ (get_or_default c.args.images.now p.module c.index.result.now inside.image inside.exists ∙ inside.is)) in
    let is : IsCodeOf c.args.images.now p c.code_in.result = record { inside = inside; is = c.code_in.ensures.code ∙ ap (λ (i : ImageView). code_in i p) image; bytes = c.code_in.ensures.bytes } in
    rw (c.in_ok-push.ensures.items) (first_more c.args.images.now c.args.places.now c.loop-i.codes.items c.loop-i.i c.code_in.result c.loop-i.invariant (subst (λ (q : Place). IsCodeOf c.args.images.now q c.code_in.result) (sym same) is))
