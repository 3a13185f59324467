-- Behind the first halfword of a place no other place begins.
use Rattle.std.proofs.Common.{◌≡◌, inl, inr, ℕ, ◌+◌, ◌<◌, ◌≤◌, false, ◌||◌, ◌==◌, List, length, get_or, refl, sym, subst, arith}
use Rattle.std.proofs.lemmas.List.{get_or_default}
use Rattle.std.proofs.lemmas.List.Folds.{list_any_none}
use Rattle.cov_base.proofs.Laws.{length_of-least}
use Rattle.std.proofs.lemmas.Bool.{cases_order, ne_eqb}
use Rattle.module_area.specs.Meaning.{no_place, place_of}
use Rattle.module_area.specs.declared.places.Place.{Place}
use Rattle.brk_table.specs.Meaning.{touches}
use Rattle.brk_table.specs.Places.{AreApart, ArePlaces}

unlike : (p q : Place) (x : ℕ) → AreApart p q → 2 ≤ q.len → p.at + 2 ≤ x → x < p.at + p.len → (x == q.at || x == q.at + 1) ≡ false
unlike p q x (inl h) some from to = rw (ne_eqb x q.at (λ e. omega arith), ne_eqb x (q.at + 1) (λ e. omega arith)) refl
unlike p q x (inr h) some from to = rw (ne_eqb x q.at (λ e. omega arith), ne_eqb x (q.at + 1) (λ e. omega arith)) refl

itself : (p : Place) (x : ℕ) → p.at + 2 ≤ x → (x == p.at || x == p.at + 1) ≡ false
itself p x from = rw (ne_eqb x p.at (λ e. omega arith), ne_eqb x (p.at + 1) (λ e. omega arith)) refl

turned : (p q : Place) → AreApart p q → AreApart q p
turned p q (inl h) = inr h
turned p q (inr h) = inl h

pub not_touched : (places : List Place) (k x : ℕ) → ArePlaces places → k < length places → (place_of places k).at + 2 ≤ x → x < (place_of places k).at + (place_of places k).len → touches places x ≡ false
not_touched places k x are lt from to = list_any_none (λ (q : Place). x == q.at || x == q.at + 1) places one
  where
    one : (j : ℕ) (d : Place) → j < length places → (x == (get_or places j d).at || x == (get_or places j d).at + 1) ≡ false
    one j d l =
        let p : Place = get_or places k d in
        let q : Place = get_or places j d in
        let same : place_of places k ≡ p = get_or_default places k no_place d lt in
        let start : p.at + 2 ≤ x = subst (λ (y : Place). y.at + 2 ≤ x) same from in
        let end : x < p.at + p.len = subst (λ (y : Place). x < y.at + y.len) same to in
        let size : 2 ≤ q.len = omega (arith, length_of-least q.original, (are.each j d l).size) in
        elim (cases_order j k) [
          | inl same_number ↦ subst (λ (n : ℕ). (x == (get_or places n d).at || x == (get_or places n d).at + 1) ≡ false) (sym same_number) (itself p x start)
          | inr rest ↦ elim rest [
            | inl below ↦ unlike p q x (turned q p (are.apart j k d below lt)) size start end
            | inr above ↦ unlike p q x (are.apart k j d above l) size start end
          ]
        ]
