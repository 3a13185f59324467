-- The order of two files doesn't matter, and a file with itself changes nothing.
use Rattle.std.proofs.Common.{◌≡◌, ℕ, List, [], ◌∷◌, ◌++◌, length, refl, ap, sym, ◌∙◌, arith, ap₂}
use Rattle.std.proofs.Math.Bool.{or_comm, or_self}
use Rattle.std.specs.List.{flat_map}
use Rattle.byteorder.specs.Endian.{big_bytes}
use Rattle.cov_base.specs.Meaning.{union, FactSet, number_of_facts}
use Rattle.marks_file.specs.Meaning.{modules_bytes, MarkedView, place_row, place_bytes, module_bytes, unite_place, unite_places, unite}
use Rattle.marks_file.specs.declared.marks.MarkedPlace.{MarkedPlace}
use Rattle.marks_file.specs.Combine.{SamePlaces, SameTables}
use Rattle.marks_file.proofs.UnionLemmas.{length-unite}
use Rattle.marks_file.proofs.FilesLemmas.{row_kept}

set_turned : (s t : FactSet) → union s t ≡ union t s
set_turned s t = rw (or_comm s.ran t.ran, or_comm s.went t.went, or_comm s.stayed t.stayed) refl

place_turned : (p q : MarkedPlace) → place_row p ≡ place_row q → place_bytes (unite_place p q) ≡ place_bytes (unite_place q p)
place_turned p q h =
    ap (λ r. r ++ (number_of_facts (union p.set q.set) ∷ [])) h ∙ ap (λ s. place_row q ++ (number_of_facts s ∷ [])) (set_turned p.set q.set)

places_turned : (ps qs : List MarkedPlace) → SamePlaces ps qs → flat_map place_bytes (unite_places ps qs) ≡ flat_map place_bytes (unite_places qs ps)
places_turned [] [] h = refl
places_turned [] (q ∷ qs) h = absurd h
places_turned (p ∷ ps) [] h = absurd h
places_turned (p ∷ ps) (q ∷ qs) h = ap₂ (λ (x y : List ℕ). x ++ y) (place_turned p q h.0) (places_turned ps qs h.1)

modules_turned : (ms ns : List MarkedView) → SameTables ms ns → flat_map module_bytes (unite ms ns) ≡ flat_map module_bytes (unite ns ms)
modules_turned [] [] h = refl
modules_turned [] (n ∷ ns) h = absurd h
modules_turned (m ∷ ms) [] h = absurd h
modules_turned (m ∷ ms) (n ∷ ns) h =
    let row = row_kept m n ∙ (h.0.0 ∙ sym (row_kept n m)) in
    let first = ap₂ (λ (x y : List ℕ). x ++ y) row (places_turned m.places n.places h.0.1) in
    ap₂ (λ (x y : List ℕ). x ++ y) first (modules_turned ms ns h.1)

length_same : (ms ns : List MarkedView) → SameTables ms ns → length ms ≡ length ns
length_same [] [] h = refl
length_same [] (n ∷ ns) h = absurd h
length_same (m ∷ ms) [] h = absurd h
length_same (m ∷ ms) (n ∷ ns) h = omega (arith, length_same ms ns h.1)

pub files_turned : (ms ns : List MarkedView) → SameTables ms ns → modules_bytes (unite ms ns) ≡ modules_bytes (unite ns ms)
files_turned ms ns h =
    let count = length-unite ms ns ∙ (length_same ms ns h ∙ sym (length-unite ns ms)) in
    ap₂ (λ (x y : List ℕ). x ++ y) (ap (λ n. big_bytes 2 n) count) (modules_turned ms ns h)

set_itself : (s : FactSet) → union s s ≡ s
set_itself s = rw (or_self s.ran, or_self s.went, or_self s.stayed) refl

places_itself : (ps : List MarkedPlace) → unite_places ps ps ≡ ps
places_itself [] = refl
places_itself (p ∷ ps) = ap (λ s. record p { set = s } ∷ unite_places ps ps) (set_itself p.set) ∙ ap (λ qs. p ∷ qs) (places_itself ps)

pub file_itself : (ms : List MarkedView) → unite ms ms ≡ ms
file_itself [] = refl
file_itself (m ∷ ms) = ap (λ ps. record m { places = ps } ∷ unite ms ms) (places_itself m.places) ∙ ap (λ ns. m ∷ ns) (file_itself ms)
