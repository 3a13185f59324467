-- The places of a module keep the rules of a marks file.
use Rattle.std.proofs.Common.{◌≡◌, ℕ, ◌+◌, ◌-◌, ◌%◌, ◌<◌, ◌≤◌, zero, suc, true, ◌||◌, nat_eq, nat_lt, List, length, refl, sym, ap, ◌∙◌, arith, ne_eqb}
use Rattle.std.proofs.lemmas.Bool.Decides.{nat_tests}
use Rattle.std.proofs.lemmas.List.Elements.{All-tail}
use Rattle.std.proofs.lemmas.Bool.{lt-ltb, le-leb, eq-eqb, and_from, not_from_false}
use Rattle.cov_base.specs.Meaning.{length_of, FactSet, number_of_facts, is_within, ImageView}
use Rattle.cov_base.specs.declared.facts.Kind.{Kind}
use Rattle.cov_base.proofs.Laws.{length_of-cases, length_of-least}
use Rattle.module_area.specs.Images.{IsImage}
use Rattle.module_area.specs.Meaning.{place_of}
use Rattle.module_area.specs.declared.places.Place.{Place}
use Rattle.brk_table.specs.Places.{IsPlace}
use Rattle.marks_file.specs.Meaning.{kind_number, is_location, is_length, is_original, is_set, are_places, end_location, is_runs}
use Rattle.marks_file.specs.declared.marks.MarkedPlace.{MarkedPlace}
use Rattle.marks_file.proofs.Laws.{is_place, set_read, small_number}
use Rattle.session_marks.specs.Fields.{AreHalfwords}
use Rattle.session_marks.specs.Meaning.{marked_places, marked_place}

pub one_run : is_runs 1 ≡ true
unfolding is_runs
one_run = refl

-- a place of a module, and a set there
pub record IsMarkable (image : ImageView) (p : Place) (set : FactSet) : Type 0 where
  pub is : IsPlace p
  pub from : image.base ≤ p.at
  pub to : p.at + p.len ≤ image.base + length image.bytes
  pub within : is_within p.kind set ≡ true

even_location : (at base : ℕ) → at % 2 ≡ 0 → base % 8 ≡ 0 → base ≤ at → (at - base) % 2 ≡ 0
even_location at base a b l = omega arith

location_kept : (image : ImageView) (p : Place) (set : FactSet) (end : ℕ) → IsImage image → IsMarkable image p set → end + image.base ≤ p.at → is_location (length image.bytes) end (p.at - image.base) ≡ true
unfolding is_location
location_kept image p set end i m h =
    let long = length_of-least p.original in
    let size = m.is.size in
    and_from _ _ (eq-eqb _ 0 (even_location p.at image.base m.is.even i.doubleword m.from)) (and_from _ _ (lt-ltb (p.at - image.base) (length image.bytes) (omega (arith, m.to, m.from, long, size))) (le-leb end (p.at - image.base) (omega (arith, m.from))))

one_length : (n h : ℕ) → n ≡ length_of h → (nat_eq n 2 || (nat_eq n 4 || nat_eq n 6)) ≡ true
one_length n h e = let c = length_of-cases h in grind (arith, nat_tests)

length_kept : (image : ImageView) (p : Place) (set : FactSet) → IsMarkable image p set → is_length (length image.bytes) (p.at - image.base) p.len ≡ true
unfolding is_length
length_kept image p set m =
    and_from _ _ (one_length p.len p.original m.is.size) (le-leb (p.at - image.base + p.len) (length image.bytes) (omega (arith, m.to, m.from)))

original_kept : (p : Place) → IsPlace p → p.original < 65536 → is_original p.len p.kind p.original ≡ true
unfolding is_original
original_kept p is half =
    and_from _ _ (lt-ltb _ _ half) (and_from _ _ (eq-eqb _ _ (sym is.size)) (and_from _ _ (eq-eqb _ _ (ap kind_number (sym is.kind))) (not_from_false _ (ne_eqb _ _ is.no_breakpoint))))

set_kept : (k : Kind) (s : FactSet) → is_within k s ≡ true → is_set k (number_of_facts s) ≡ true
unfolding is_set
set_kept k s h = and_from (nat_lt (number_of_facts s) 8) _ (small_number s.ran s.went s.stayed) (ap (is_within k) (set_read s) ∙ h)

place_kept : (image : ImageView) (places : List Place) (sets : ℕ → FactSet) (n end : ℕ) → IsImage image → IsMarkable image (place_of places n) (sets n) → (place_of places n).original < 65536 → end + image.base ≤ (place_of places n).at
    → is_place (length image.bytes) end (marked_place image.base places sets n) ≡ true
place_kept image places sets n end i m half h =
    let p = place_of places n in
    and_from _ _ (location_kept image p (sets n) end i m h) (and_from _ _ (length_kept image p (sets n) m) (and_from _ _ (original_kept p m.is half) (set_kept p.kind (sets n) m.within)))

-- the places from first on that a module has, in order
pub record AreMarkable (image : ImageView) (places : List Place) (sets : ℕ → FactSet) (first count : ℕ) : Type 0 where
  pub each : (n : ℕ) → first ≤ n → n < first + count → IsMarkable image (place_of places n) (sets n)
  pub rise : (n : ℕ) → first ≤ n → n + 1 < first + count → (place_of places n).at + (place_of places n).len ≤ (place_of places (n + 1)).at

later_places : (image : ImageView) (places : List Place) (sets : ℕ → FactSet) (first count : ℕ) → AreMarkable image places sets first (suc count) → AreMarkable image places sets (first + 1) count
later_places image places sets first count are = record {
  each = λ n l h. are.each n (omega arith) (omega arith);
  rise = λ n l h. are.rise n (omega arith) (omega arith);
}

places_from : (image : ImageView) (places : List Place) (sets : ℕ → FactSet) (first count end : ℕ) → IsImage image → AreMarkable image places sets first count → AreHalfwords (marked_places image.base places sets first count) → (0 < count → end + image.base ≤ (place_of places first).at)
    → are_places (length image.bytes) end (marked_places image.base places sets first count) ≡ true
places_from image places sets first zero end i are halves h = refl
places_from image places sets first (suc count) end i are halves h =
    let p = marked_place image.base places sets first in
    let rest = marked_places image.base places sets (first + 1) count in
    let here = are.each first (omega arith) (omega arith) in
    let half = halves 0 p (omega arith) in
    let next : 0 < count → end_location p + image.base ≤ (place_of places (first + 1)).at = λ l. (let rise = are.rise first (omega arith) (omega arith) in omega (arith, rise, here.from)) in
    and_from _ _ (place_kept image places sets first end i here half (h (omega arith)))
    (places_from image places sets (first + 1) count (end_location p) i (later_places image places sets first count are) (All-tail (λ (q : MarkedPlace). q.original < 65536) p rest halves) next)

-- a module's places keep their rules
pub places_kept : (image : ImageView) (places : List Place) (sets : ℕ → FactSet) (first count : ℕ) → IsImage image → AreMarkable image places sets first count → AreHalfwords (marked_places image.base places sets first count)
    → are_places (length image.bytes) 0 (marked_places image.base places sets first count) ≡ true
places_kept image places sets first count i are halves =
    places_from image places sets first count 0 i are halves (λ l. (let here = are.each first (omega arith) (omega arith) in omega (arith, here.from)))

pub length-marked_places : (base : ℕ) (places : List Place) (sets : ℕ → FactSet) (first count : ℕ) → length (marked_places base places sets first count) ≡ count
length-marked_places base places sets first zero = refl
length-marked_places base places sets first (suc count) = ap suc (length-marked_places base places sets (first + 1) count)
