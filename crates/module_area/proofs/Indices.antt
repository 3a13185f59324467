-- Sets stand at different indices, and what stands at one.
use mathlib.Core.Option.{some, some-injective, some-ne-none}
use lib.ListN.{get_elem?}
use Rattle.std.proofs.Common.{◌≡◌, ℕ, zero, suc, ◌+◌, ◌-◌, ◌*◌, ◌<◌, ◌≤◌, Bool, true, false, List, [], ◌∷◌, get_or, refl, sym, arith, le_refl}
use Rattle.std.proofs.lemmas.Nat.{row_fits, same_from_place}
use Rattle.module_area.specs.Meaning.{index_of}

pub index_below : (places sessions s p : ℕ) → 0 < s → s ≤ sessions → p < places → index_of places s p < sessions * places
index_below places sessions s p pos within lt =
    let step : (s - 1) * places + places ≤ sessions * places = row_fits (s - 1) places sessions places (omega arith) (le_refl places) in
    omega arith

pub same_index : (places t q s p : ℕ) → 0 < t → 0 < s → q < places → p < places → index_of places t q ≡ index_of places s p → (t ≡ s) × (q ≡ p)
same_index places t q s p t0 s0 q_in p_in e =
    let same = same_from_place (t - 1) q (s - 1) p places q_in p_in e in
    let row : t - 1 ≡ s - 1 = same.0 in
    (omega arith, same.1)

pub read_at : (l : List ℕ) (i w : ℕ) → get_elem? l i ≡ some w → get_or l i 0 ≡ w
read_at [] i w e = absurd (some-ne-none w (sym e))
read_at (y ∷ ys) zero w e = some-injective y w e
read_at (y ∷ ys) (suc i) w e = read_at ys i w e

pub same_tests : (a b : Bool) → (a ≡ true → b ≡ true) → (b ≡ true → a ≡ true) → a ≡ b
same_tests true b h k = sym (h refl)
same_tests false true h k = k refl
same_tests false false h k = refl
