-- Touch bytes, and the look-ups that tell them.
use Rattle.std.proofs.Common.{◌≡◌, ℕ, ◌+◌, ◌-◌, ◌%◌, ◌<◌, ◌≤◌, zero, suc, Bool, true, false, ◌==◌, if◌then◌else◌, ◌↔◌, Option, Some, None, List, [], ◌∷◌, length, get_or, refl, sym, ◌∙◌, arith, inl, inr, eq-or-lt_of_le}
use Rattle.std.specs.Option.{option_or}
use Rattle.std.specs.List.{All}
use Rattle.std.specs.Option.{IsNone, is_some}
use Rattle.std.proofs.lemmas.Bool.Decides.{nat_tests}
use Rattle.std.proofs.lemmas.List.Elements.{All-head, All-tail, All-get_or}
use Rattle.std.proofs.lemmas.Bool.{cases_eq, ne_eqb}
use Rattle.std.proofs.Math.Bool.{or-false}
use Rattle.cov_base.specs.Meaning.{Memory, ImageView, wrap, first_touch}
use Rattle.module_area.specs.declared.places.Place.{Place}
use Rattle.module_area.specs.Meaning.{is_place}
use Rattle.module_area.specs.Images.{IsImage, AreImages}
use Rattle.brk_table.specs.Meaning.{touches, memory_of}
use Rattle.brk_table.specs.Places.{IsPlace, IsIn}

odd_even : (a b : ℕ) → a % 2 ≡ 0 → b % 2 ≡ 0 → (a == b + 1) ≡ false
odd_even a b h k = grind (arith, nat_tests)

even_odd : (a b : ℕ) → a % 2 ≡ 1 → b % 2 ≡ 0 → (a == b) ≡ false
even_odd a b h k = grind (arith, nat_tests)

one_before : (a b : ℕ) → a % 2 ≡ 1 → (a == b + 1) ≡ (a - 1 == b)
one_before a b h = grind (arith, nat_tests)

touches-even : (places : List Place) (a : ℕ) → All IsPlace places → a % 2 ≡ 0 → touches places a ≡ is_place places a
touches-even [] a f h = refl
touches-even (p ∷ ps) a f h =
    let q : IsPlace p = All-head IsPlace p ps f in
    rw (odd_even a p.at h q.even, or-false (a == p.at), touches-even ps a (All-tail IsPlace p ps f) h) refl

touches-odd : (places : List Place) (a : ℕ) → All IsPlace places → a % 2 ≡ 1 → touches places a ≡ is_place places (a - 1)
touches-odd [] a f h = refl
touches-odd (p ∷ ps) a f h =
    let q : IsPlace p = All-head IsPlace p ps f in
    rw (even_odd a p.at h q.even, one_before a p.at h, touches-odd ps a (All-tail IsPlace p ps f) h) refl

-- one look-up tells a halfword
pub touches-halfword : (places : List Place) (a b : ℕ) → All IsPlace places → b ≡ a - a % 2 → touches places a ≡ is_place places b
touches-halfword places a b f e =
    elim (cases_eq (a % 2) 0) [
      | inl h ↦ rw (let d : b ≡ a = omega arith in d) (touches-even places a f h)
      | inr h ↦ rw (let d : b ≡ a - 1 = omega arith in d) (touches-odd places a f (omega arith))
    ]

neither : (o q : Option ℕ) → option_or o q ≡ None → (o ≡ None) × (q ≡ None)
neither None q h = (refl, h)
neither (Some a) q h = let e : Some a ≡ None = h in absurd cc

none_untold : (b : Bool) (a : ℕ) → (if b then Some a else None) ≡ None → b ≡ false
none_untold true a h = let e : Some a ≡ None = h in absurd cc
none_untold false a h = refl

touch_at : (m : Memory) (a n i b : ℕ) → first_touch m a n ≡ None → i < n → b ≡ wrap (a + i) → m.is_touch b ≡ false
unfolding first_touch
touch_at m a zero i b h l e = absurd (omega arith)
touch_at m a (suc n) i b h l e =
    elim (eq-or-lt_of_le {n = i} {m = n} (omega arith)) [
      | inl q ↦ rw (e, q) (none_untold (m.is_touch (wrap (a + n))) (wrap (a + n)) (neither (first_touch m a n) _ h).1)
      | inr k ↦ touch_at m a n i b (neither (first_touch m a n) _ h).0 k e
    ]

-- an odd byte is a touch byte where the one before it is
pub touch_odd : (size : ℕ) (images : List ImageView) (places : List Place) (a i b : ℕ) → All IsPlace places → first_touch (memory_of size images places) a i ≡ None → 0 < i → b ≡ wrap (a + i) → b % 2 ≡ 1 → (memory_of size images places).is_touch b ≡ false
unfolding memory_of
touch_odd size images places a i b f h l e k =
    let before : touches places (b - 1) ≡ false = touch_at (memory_of size images places) a i (i - 1) (b - 1) h (omega arith) (omega arith) in
    touches-odd places b f k ∙ sym (touches-even places (b - 1) f (omega arith)) ∙ before

pub base_from : (images : List ImageView) (p : Place) → AreImages images → IsIn images p → 1048576 ≤ p.at
base_from images p f q =
    let i : IsImage (get_or images p.module q.image) = All-get_or IsImage images p.module q.image q.exists f.each in
    let j : IsImage q.image = rw q.is at i in
    omega arith

-- no byte of private storage is one
pub touches-private : (images : List ImageView) (places : List Place) (b : ℕ) → AreImages images → All (IsIn images) places → b < 1048576 → touches places b ≡ false
touches-private images [] b f h l = refl
touches-private images (p ∷ ps) b f h l =
    let q : 1048576 ≤ p.at = base_from images p f (All-head (IsIn images) p ps h) in
    rw (ne_eqb b p.at (λ e. omega arith), ne_eqb b (p.at + 1) (λ e. omega arith), touches-private images ps b f (All-tail (IsIn images) p ps h) l) refl

-- nor is any where no module is monitored
pub touches-none : (places : List Place) (b : ℕ) → length places ≤ 0 → touches places b ≡ false
touches-none [] b h = refl
touches-none (p ∷ ps) b h = absurd (omega arith)

pub told : {X : Type 0} (o : Option X) (r p : Bool) → r ≡ is_some o → (IsNone o ↔ (p ≡ false)) → r ≡ p
told None r p e h = e ∙ sym (h.0 refl)
told (Some x) r true e h = e
told (Some x) r false e h = let d : true ≡ false = h.1 refl in absurd cc
