-- The number of the place that begins at an address.
use Rattle.std.proofs.Common.{◌≡◌, ◌↔◌, ℕ, ◌+◌, ◌<◌, zero, suc, Bool, false, ◌==◌, if◌then◌else◌, Option, Some, None, option_map, IfSome, IsNone, List, [], ◌∷◌, length, refl, sym, ◌∙◌, ap, arith, eq-eqb, ne_eqb}
use Rattle.std.proofs.lemmas.Bool.{or_parts}
use Rattle.std.specs.List.{position_from}
use Rattle.cov_base.specs.declared.numbers.PlaceNo.{PlaceNo as Number}
use Rattle.module_area.specs.Meaning.{place_of, is_place}
use Rattle.module_area.specs.declared.places.Place.{Place}
use Rattle.brk_table.specs.Places.{ArePlaces}
use Rattle.brk_table.proofs.Laws.{one_begins}

abbrev pub begins_at : ℕ → Place → Bool
begins_at a p = a == p.at

-- it is the only one
pub there : (n a : ℕ) (places : List Place) (k : ℕ) → k < length places → (place_of places k).at ≡ a →
    ((q : ℕ) → q < length places → (place_of places q).at ≡ a → q ≡ k) → position_from (begins_at a) n places ≡ Some (n + k)
there n a [] k l at only = absurd (omega arith)
there n a (p ∷ ps) zero l at only = let number : n ≡ n + 0 = omega arith in rw (eq-eqb a p.at (sym at)) (ap Some number)
there n a (p ∷ ps) (suc k) l at only =
    let other : (a == p.at) ≡ false = ne_eqb a p.at (λ e. let z : 0 ≡ suc k = only 0 (omega arith) (sym e) in absurd (omega arith)) in
    let rest : position_from (begins_at a) (n + 1) ps ≡ Some (n + 1 + k) = there (n + 1) a ps k (omega arith) at (λ q m e. let s : suc q ≡ suc k = only (suc q) (omega arith) e in omega arith) in
    let number : n + 1 + k ≡ n + suc k = omega arith in
    rw other (rest ∙ ap Some number)

nowhere : (n a : ℕ) (places : List Place) → is_place places a ≡ false → position_from (begins_at a) n places ≡ None
nowhere n a [] h = refl
nowhere n a (p ∷ ps) h = let apart = or_parts (a == p.at) (is_place ps a) h in
    ap (λ (b : Bool). if b then Some n else position_from (begins_at a) (n + 1) ps) apart.0 ∙ nowhere (n + 1) a ps apart.1

-- what a search that answers by the places tells
pub found : (places : List Place) (a : ℕ) (r : Option Number) → ArePlaces places → IfSome r (λ n. n.0 < length places) →
    IfSome r (λ n. (place_of places n.0).at ≡ a) → (IsNone r ↔ (is_place places a ≡ false)) → option_map (λ (p : Number). p.0) r ≡ position_from (begins_at a) 0 places
found places a None are exists begins none = sym (nowhere 0 a places (none.0 refl))
found places a (Some n) are exists begins none =
    let number : n.0 ≡ 0 + n.0 = omega arith in
    ap Some number ∙ sym (there 0 a places n.0 exists begins (λ q l e. one_begins places n.0 q are exists l (e ∙ sym begins)))
