-- One place more of a session that is opened or closed.
use Rattle.std.proofs.Common.{◌≡◌, ℕ, ◌+◌, ◌-◌, ◌*◌, ◌<◌, Bool, true, false, ◌||◌, nat_eq, if◌then◌else◌, List, [], length, take, get_or, AllPairs, refl, ap, ◌∙◌, arith, ne_eqb, zero, suc, ◌∷◌}
use Rattle.std.proofs.lemmas.List.{length-take-le, get_or-take, get_or_default}
use Rattle.std.proofs.lemmas.List.Folds.{list_any_more, list_any_none}
use Rattle.std.specs.Cmp.{nat_eq_equiv}
use mathlib.Core.Path.{fun_ext}
use Rattle.cov_base.specs.declared.numbers.PlaceNo.{PlaceNo}
use Rattle.module_area.specs.Meaning.{has_place, gives}
use Rattle.module_area.specs.Notes.{Notes, after_plant, after_close}
use Rattle.module_area.specs.Control.{after_plants, after_closes}
use Rattle.module_area.specs.declared.parties.Beat.{Beat}
use Rattle.module_area.specs.declared.parties.Beat.TheVariants.{Gave}

either_way : (a b : Bool) (x y : ℕ) → (if a || b then x else y) ≡ (if b then x else (if a then x else y))
either_way true true x y = refl
either_way true false x y = refl
either_way false true x y = refl
either_way false false x y = refl

more_tags : (f : ℕ → ℕ) (x : ℕ) (places : List PlaceNo) (i : ℕ) (d : PlaceNo) → i < length places
    → ◌≡◌ {A = ℕ → ℕ} (λ q. if has_place (take (i + 1) places) q then x else f q) (λ q. if nat_eq q (get_or places i d).0 then x else (if has_place (take i places) q then x else f q))
more_tags f x places i d l = fun_ext (λ q. ap (λ b. if b then x else f q) (list_any_more (λ (p : PlaceNo). nat_eq p.0 q) places i d l)
    ∙ (either_way (has_place (take i places) q) (nat_eq (get_or places i d).0 q) x (f q) ∙ ap (λ b. if b then x else (if has_place (take i places) q then x else f q)) (nat_eq_equiv.symm (get_or places i d).0 q)))

more_length : (places : List PlaceNo) (i : ℕ) → i < length places → length (take (i + 1) places) ≡ length (take i places) + 1
more_length places i l = let a = length-take-le (i + 1) places (omega arith) in let b = length-take-le i places (omega arith) in omega arith

gives_next : (tag : ℕ) (places : List PlaceNo) (i : ℕ) (d : PlaceNo) (bs : List Beat) → i < length places → gives tag (take (suc i) places) bs ≡ Gave (get_or places i d).0 tag ∷ gives tag (take i places) bs
gives_next tag [] i d bs l = absurd (omega arith)
gives_next tag (p ∷ ps) zero d bs l = refl
gives_next tag (p ∷ ps) (suc i) d bs l = gives_next tag ps i d (Gave p.0 tag ∷ bs) (omega arith)

gives_more : (tag : ℕ) (places : List PlaceNo) (i : ℕ) (d : PlaceNo) (bs : List Beat) → i < length places → gives tag (take (i + 1) places) bs ≡ Gave (get_or places i d).0 tag ∷ gives tag (take i places) bs
gives_more tag places i d bs l = let e : i + 1 ≡ suc i = omega arith in ap (λ k. gives tag (take k places) bs) e ∙ gives_next tag places i d bs l

pub more_planted : (n : Notes) (s : ℕ) (places : List PlaceNo) (i : ℕ) (d : PlaceNo) → i < length places → after_plants n s (take (i + 1) places) ≡ after_plant (after_plants n s (take i places)) s (get_or places i d).0
more_planted n s places i d l = let seen = more_tags n.seen (2 * s - 1) places i d l in let last = more_tags n.last (2 * s - 1) places i d l in let beats = gives_more (2 * s - 1) places i d n.beats l in let k = more_length places i l in
    let plants : n.tally.plants + length (take (i + 1) places) ≡ n.tally.plants + length (take i places) + 1 = omega arith in
    λ j. record n { seen = seen j; last = last j; beats = beats j; tally = record n.tally { plants = plants j } }

pub more_closed : (n : Notes) (s : ℕ) (places : List PlaceNo) (i : ℕ) (d : PlaceNo) → i < length places → after_closes n s (take (i + 1) places) ≡ after_close (after_closes n s (take i places)) s (get_or places i d).0
more_closed n s places i d l = let seen = more_tags n.seen (2 * s) places i d l in let last = more_tags n.last (2 * s) places i d l in let beats = gives_more (2 * s) places i d n.beats l in let k = more_length places i l in
    let closes : n.tally.closes + length (take (i + 1) places) ≡ n.tally.closes + length (take i places) + 1 = omega arith in
    λ j. record n { seen = seen j; last = last j; beats = beats j; tally = record n.tally { closes = closes j } }

pub none_planted : (n : Notes) (s : ℕ) → n ≡ after_plants n s (take 0 [])
none_planted n s = let e : n.tally.plants ≡ n.tally.plants + 0 = omega arith in λ j. record n { tally = record n.tally { plants = e j } }

pub none_closed : (n : Notes) (s : ℕ) → n ≡ after_closes n s (take 0 [])
none_closed n s = let e : n.tally.closes ≡ n.tally.closes + 0 = omega arith in λ j. record n { tally = record n.tally { closes = e j } }

-- rising places differ from those before
pub not_before : (places : List PlaceNo) (i : ℕ) (d : PlaceNo) → AllPairs (λ (p q : PlaceNo). p.0 < q.0) places → i < length places → has_place (take i places) (get_or places i d).0 ≡ false
not_before places i d rising l = list_any_none (λ (p : PlaceNo). nat_eq p.0 (get_or places i d).0) (take i places)
    (λ k e lk. let size = length-take-le i places (omega arith) in let low : k < i = omega arith in let below = rising k i d low l in
    let same : get_or (take i places) k e ≡ get_or places k e = get_or-take i places k e low in
    let there : (get_or places k e).0 ≡ (get_or places k d).0 = ap (λ (p : PlaceNo). p.0) (any_default places k e d (omega arith)) in
    ne_eqb (get_or (take i places) k e).0 (get_or places i d).0 (λ z. let a : (get_or (take i places) k e).0 ≡ (get_or places k e).0 = ap (λ (p : PlaceNo). p.0) same in absurd (omega arith)))
  where
    any_default : (xs : List PlaceNo) (k : ℕ) (a b : PlaceNo) → k < length xs → get_or xs k a ≡ get_or xs k b
    any_default xs k a b l = get_or_default xs k a b l
