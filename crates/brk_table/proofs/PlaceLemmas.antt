-- Whether a place begins at an address, and that no two do.
use Rattle.std.proofs.Common.{◌≡◌, ◌≢◌, ℕ, ◌<◌, ◌≤◌, zero, suc, true, false, ◌==◌, List, [], ◌∷◌, length, inl, inr, refl, sym, arith}
use Rattle.std.proofs.lemmas.Bool.{cases_order, eq-eqb, ne_eqb}
use Rattle.cov_base.proofs.Laws.{length_of-least}
use Rattle.std.proofs.Math.Bool.{or-true}
use Rattle.module_area.specs.Meaning.{place_of, no_place, is_place}
use Rattle.module_area.specs.declared.places.Place.{Place}
use Rattle.brk_table.specs.Places.{ArePlaces, AreApart, IsPlace}

pub is_place-there : (places : List Place) (k a : ℕ) → k < length places → (place_of places k).at ≡ a → is_place places a ≡ true
is_place-there [] k a h e = absurd (omega arith)
is_place-there (p ∷ ps) zero a h e = rw (eq-eqb a p.at (sym e)) refl
is_place-there (p ∷ ps) (suc k) a h e = rw (is_place-there ps k a (omega arith) e) (or-true (a == p.at))

pub is_place-nowhere : (places : List Place) (a : ℕ) → ((k : ℕ) → k < length places → (place_of places k).at ≢ a) → is_place places a ≡ false
is_place-nowhere [] a h = refl
is_place-nowhere (p ∷ ps) a h = rw (ne_eqb a p.at (λ e. h 0 (omega arith) (sym e)), is_place-nowhere ps a (λ k l. h (suc k) (omega arith))) refl

-- no two places begin at one address

some_bytes : (places : List Place) (p : ℕ) → ArePlaces places → p < length places → 2 ≤ (place_of places p).len
some_bytes places p are lt =
    let is : IsPlace (place_of places p) = are.each p no_place lt in
    omega (arith, is.size, length_of-least (place_of places p).original)

not_before : (places : List Place) (p q : ℕ) → ArePlaces places → p < q → q < length places → (place_of places p).at ≢ (place_of places q).at
not_before places p q are lt within same =
    let lengths = some_bytes places p are (omega arith) in
    let others = some_bytes places q are within in
    let apart : AreApart (place_of places p) (place_of places q) = are.apart p q no_place lt within in
    elim apart [ inl before ↦ absurd (omega arith) | inr after ↦ absurd (omega arith) ]

pub one_begins : (places : List Place) (p q : ℕ) → ArePlaces places → p < length places → q < length places → (place_of places q).at ≡ (place_of places p).at → q ≡ p
one_begins places p q are p_in q_in same = elim (cases_order q p) [
  | inl e ↦ e
  | inr ne ↦ elim ne [
    | inl lt ↦ absurd (not_before places q p are lt p_in same)
    | inr gt ↦ absurd (not_before places p q are gt q_in (sym same))
  ]
]
