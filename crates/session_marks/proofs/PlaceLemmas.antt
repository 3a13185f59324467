-- The places of a table as a module's.
use Rattle.std.proofs.Common.{◌≡◌, ℕ, ◌+◌, ◌-◌, ◌≤◌, zero, suc, List, [], ◌∷◌, ◌++◌, sym, ap, ◌∙◌, arith}
use Rattle.cov_base.specs.Meaning.{FactSet}
use Rattle.module_area.specs.declared.places.Place.{Place}
use Rattle.marks_file.specs.declared.marks.MarkedPlace.{MarkedPlace}
use Rattle.session_marks.specs.Meaning.{marked_place, marked_places}

counted_on : (base : ℕ) (places : List Place) (sets : ℕ → FactSet) (n count : ℕ) → marked_places base places sets n (suc count) ≡ marked_places base places sets n count ++ marked_place base places sets (n + count) ∷ []
counted_on base places sets n zero = let at : n ≡ n + 0 = omega arith in ap (λ k. marked_place base places sets k ∷ []) at
counted_on base places sets n (suc count) =
    let more = counted_on base places sets (n + 1) count in
    let at : n + 1 + count ≡ n + suc count = omega arith in
    ap (λ ps. marked_place base places sets n ∷ ps) (more ∙ ap (λ k. marked_places base places sets (n + 1) count ++ marked_place base places sets k ∷ []) at)

-- one more place
pub places_more : (base : ℕ) (places : List Place) (sets : ℕ → FactSet) (first n : ℕ) → first ≤ n → marked_places base places sets first (n + 1 - first) ≡ marked_places base places sets first (n - first) ++ marked_place base places sets n ∷ []
places_more base places sets first n h =
    let more : n + 1 - first ≡ suc (n - first) = omega arith in
    let at : first + (n - first) ≡ n = omega arith in
    ap (marked_places base places sets first) more ∙ (counted_on base places sets first (n - first) ∙ ap (λ k. marked_places base places sets first (n - first) ++ marked_place base places sets k ∷ []) at)

-- a place pushed
pub places_step : (base : ℕ) (places : List Place) (sets : ℕ → FactSet) (first n : ℕ) (was now : List MarkedPlace) (p : MarkedPlace) → first ≤ n → was ≡ marked_places base places sets first (n - first) → now ≡ was ++ p ∷ [] → p ≡ marked_place base places sets n → now ≡ marked_places base places sets first (n + 1 - first)
places_step base places sets first n was now p h before push is =
    push ∙ (ap (λ ps. ps ++ p ∷ []) before ∙ (ap (λ q. marked_places base places sets first (n - first) ++ q ∷ []) is ∙ sym (places_more base places sets first n h)))
