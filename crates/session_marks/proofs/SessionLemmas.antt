-- What the marks of a session say of its table and its sets.
use Rattle.std.proofs.Common.{◌≡◌, ℕ, ◌+◌, ◌-◌, ◌<◌, zero, suc, true, None, List, [], ◌∷◌, ◌++◌, length, get_or, map, All, refl, ap, sym, ◌∙◌, subst, arith}
use Rattle.std.proofs.lemmas.Bool.{and_parts}
use Rattle.std.proofs.lemmas.List.{get_or-map}
use Rattle.cov_base.specs.Meaning.{FactSet, number_of_facts, is_within}
use Rattle.cov_base.specs.declared.facts.Kind.{Kind}
use Rattle.marks_file.specs.Meaning.{MarkedView, is_location, is_length, is_original, is_set, are_places, end_location, is_new_name, is_base, is_size, is_count, are_modules, is_module_count, are_marks, place_row, module_row, module_rows, rows, first_difference, unite}
use Rattle.marks_file.specs.declared.marks.MarkedPlace.{MarkedPlace}
use Rattle.marks_file.proofs.Laws.{is_place, is_module, set_read, same_cons, same_append, length-unite_places, none_differs}
use Rattle.module_area.specs.Meaning.{place_of}
use Rattle.module_area.specs.declared.places.Place.{Place}
use Rattle.brk_table.specs.Meaning.{TablesView, first_place, place_count}
use Rattle.session_book.specs.Meaning.{JobView, module_of, session_of}
use Rattle.phase_plan.specs.Sets.{AreWithin}
use Rattle.session_marks.specs.Meaning.{marked_places, marked_place, marked_module, session_marks, session_rows}
use Rattle.session_marks.specs.FromFile.{IsOwn, AreSameAt}
use Rattle.session_marks.proofs.RuleLemmas.{length-marked_places}
use Rattle.session_marks.proofs.SetsLemmas.{empty, no_more_modules}

-- the rows are the same whatever the sets are
places_rows : (base : ℕ) (places : List Place) (sets others : ℕ → FactSet) (n count : ℕ) → map place_row (marked_places base places sets n count) ≡ map place_row (marked_places base places others n count)
places_rows base places sets others n zero = refl
places_rows base places sets others n (suc count) = same_cons (place_row (marked_place base places sets n)) (place_row (marked_place base places others n)) _ _ refl (places_rows base places sets others (n + 1) count)

row_of_count : (m : MarkedView) (ps qs : List MarkedPlace) → length ps ≡ length qs → module_row (record m { places = ps }) ≡ module_row (record m { places = qs })
row_of_count m ps qs e = rw e refl

module_row_same : (j : JobView) (tables : TablesView) (sets others : ℕ → FactSet) (m : ℕ) → module_row (marked_module j tables sets m) ≡ module_row (marked_module j tables others m)
module_row_same j tables sets others m =
    let base = (module_of j m).base in
    let first = first_place tables.tables m in
    let count = place_count tables.tables m in
    let ps = marked_places base tables.places sets first count in
    let qs = marked_places base tables.places others first count in
    row_of_count (marked_module j tables sets m) ps qs (length-marked_places base tables.places sets first count ∙ sym (length-marked_places base tables.places others first count))

modules_rows : (j : JobView) (tables : TablesView) (sets others : ℕ → FactSet) (ms : List ℕ) → rows (map (marked_module j tables sets) ms) ≡ rows (map (marked_module j tables others) ms)
modules_rows j tables sets others [] = refl
modules_rows j tables sets others (m ∷ ms) =
    same_append (module_rows (marked_module j tables sets m)) (module_rows (marked_module j tables others m)) (rows (map (marked_module j tables sets) ms)) (rows (map (marked_module j tables others) ms))
    (same_cons (module_row (marked_module j tables sets m)) (module_row (marked_module j tables others m)) _ _ (module_row_same j tables sets others m) (places_rows (module_of j m).base tables.places sets others (first_place tables.tables m) (place_count tables.tables m)))
    (modules_rows j tables sets others ms)

-- no row of the session's marks differs
pub own_same : (j : JobView) (tables : TablesView) (s : ℕ) (file : List MarkedView) → IsOwn j tables s file → first_difference 0 (session_rows j tables s) (rows file) ≡ None
own_same j tables s file own =
    ap (λ x. first_difference 0 (session_rows j tables s) (rows x)) own.is
    ∙ (ap (first_difference 0 (session_rows j tables s)) (modules_rows j tables own.sets empty (session_of j s).modules) ∙ none_differs 0 (session_rows j tables s))

-- the place of each number
place_read : (base : ℕ) (places : List Place) (sets : ℕ → FactSet) (n count k : ℕ) (d : MarkedPlace) → k < count → get_or (marked_places base places sets n count) k d ≡ marked_place base places sets (n + k)
place_read base places sets n zero k d h = absurd (omega arith)
place_read base places sets n (suc count) zero d h = ap (marked_place base places sets) (omega arith)
place_read base places sets n (suc count) (suc k) d h = place_read base places sets (n + 1) count k d (omega arith) ∙ ap (marked_place base places sets) (omega arith)

-- a module's places have their sets
module_one : (j : JobView) (tables : TablesView) (sets others : ℕ → FactSet) (m : ℕ) → marked_module j tables sets m ≡ marked_module j tables others m → AreSameAt tables sets others m
module_one j tables sets others m e n from to =
    let base = (module_of j m).base in
    let first = first_place tables.tables m in
    let count = place_count tables.tables m in
    let d = marked_place base tables.places sets 0 in
    let k = n - first in
    let at : first + k ≡ n = omega arith in
    let a : get_or (marked_places base tables.places sets first count) k d ≡ marked_place base tables.places sets (first + k) = place_read base tables.places sets first count k d (omega arith) in
    let b : get_or (marked_places base tables.places others first count) k d ≡ marked_place base tables.places others (first + k) = place_read base tables.places others first count k d (omega arith) in
    let same : sets (first + k) ≡ others (first + k) = ap (λ (p : MarkedPlace). p.set) (sym a ∙ (ap (λ (x : MarkedView). get_or x.places k d) e ∙ b)) in
    ap sets (sym at) ∙ (same ∙ ap others at)

-- the sets at the session's places are those of its marks
pub sets_one : (j : JobView) (tables : TablesView) (sets others : ℕ → FactSet) (s : ℕ) (file : List MarkedView) → file ≡ session_marks j tables sets s → file ≡ session_marks j tables others s → All (AreSameAt tables sets others) (session_of j s).modules
sets_one j tables sets others s file e f i d l =
    let ms = (session_of j s).modules in
    let m = get_or ms i d in
    let w = marked_module j tables sets d in
    let a : get_or (map (marked_module j tables sets) ms) i w ≡ marked_module j tables sets m = get_or-map (marked_module j tables sets) ms i d w l in
    let b : get_or (map (marked_module j tables others) ms) i w ≡ marked_module j tables others m = get_or-map (marked_module j tables others) ms i d w l in
    module_one j tables sets others m (sym a ∙ (ap (λ x. get_or x i w) (sym e ∙ f) ∙ b))

-- the sets of marks are within their kinds
set_within : (kind : Kind) (set : FactSet) → is_set kind (number_of_facts set) ≡ true → is_within kind set ≡ true
unfolding is_set
set_within kind set h = ap (is_within kind) (sym (set_read set)) ∙ (and_parts _ _ h).1

places_within : (base : ℕ) (places : List Place) (sets : ℕ → FactSet) (size end n count k : ℕ) → are_places size end (marked_places base places sets n count) ≡ true → k < count → is_within (place_of places (n + k)).kind (sets (n + k)) ≡ true
places_within base places sets size end n zero k h l = absurd (omega arith)
places_within base places sets size end n (suc count) zero h l =
    let p = marked_place base places sets n in
    let here = (and_parts (is_place size end p) _ h).0 in
    let set : is_set p.kind (number_of_facts p.set) ≡ true = (and_parts (is_original p.len p.kind p.original) _ (and_parts (is_length size p.location p.len) _ (and_parts (is_location size end p.location) _ here).1).1).1 in
    subst (λ x. is_within (place_of places x).kind (sets x) ≡ true) (omega arith) (set_within p.kind p.set set)
places_within base places sets size end n (suc count) (suc k) h l =
    let p = marked_place base places sets n in
    let more = places_within base places sets size (end_location p) (n + 1) count k (and_parts (is_place size end p) _ h).1 (omega arith) in
    subst (λ x. is_within (place_of places x).kind (sets x) ≡ true) (omega arith) more

module_within : (j : JobView) (tables : TablesView) (sets : ℕ → FactSet) (m : ℕ) (earlier : List MarkedView) → is_module earlier (marked_module j tables sets m) ≡ true → AreWithin tables sets m
module_within j tables sets m earlier h n from to =
    let own = marked_module j tables sets m in
    let first = first_place tables.tables m in
    let count = place_count tables.tables m in
    let k = n - first in
    let at : first + k ≡ n = omega arith in
    let places = (and_parts (is_count earlier (length own.places)) _ (and_parts (is_size earlier own.base own.size) _ (and_parts (is_base own.base) _ (and_parts (is_new_name earlier own.name) _ h).1).1).1).1 in
    subst (λ x. is_within (place_of tables.places x).kind (sets x) ≡ true) at (places_within own.base tables.places sets own.size 0 first count k places (omega arith))

modules_within : (j : JobView) (tables : TablesView) (sets : ℕ → FactSet) (ms : List ℕ) (earlier : List MarkedView) → are_modules earlier (map (marked_module j tables sets) ms) ≡ true → All (AreWithin tables sets) ms
modules_within j tables sets [] earlier h i d l = absurd (omega arith)
modules_within j tables sets (m ∷ ms) earlier h zero d l = module_within j tables sets m earlier (and_parts (is_module earlier (marked_module j tables sets m)) _ h).0
modules_within j tables sets (m ∷ ms) earlier h (suc i) d l =
    let own = marked_module j tables sets m in
    modules_within j tables sets ms (earlier ++ own ∷ []) (and_parts (is_module earlier own) _ h).1 i d (omega arith)

pub session_within : (j : JobView) (tables : TablesView) (sets : ℕ → FactSet) (s : ℕ) → are_marks (session_marks j tables sets s) ≡ true → All (AreWithin tables sets) (session_of j s).modules
session_within j tables sets s h = modules_within j tables sets (session_of j s).modules [] (and_parts (is_module_count (length (session_marks j tables sets s))) _ h).1

-- as many places as the tables have
pub counts_united : (j : JobView) (tables : TablesView) (sets : ℕ → FactSet) (ms : List ℕ) (fs : List MarkedView) (k n : ℕ) (d : MarkedView) → k < length ms
    → length (get_or (unite (map (marked_module j tables sets) ms) fs) k d).places ≡ place_count tables.tables (get_or ms k n)
counts_united j tables sets [] fs k n d l = absurd (omega arith)
counts_united j tables sets (m ∷ ms) [] zero n d l = length-marked_places (module_of j m).base tables.places sets (first_place tables.tables m) (place_count tables.tables m)
counts_united j tables sets (m ∷ ms) [] (suc k) n d l =
    ap (λ (x : List MarkedView). length (get_or x k d).places) (sym (no_more_modules (map (marked_module j tables sets) ms))) ∙ counts_united j tables sets ms [] k n d (omega arith)
counts_united j tables sets (m ∷ ms) (f ∷ fs) zero n d l =
    length-unite_places (marked_module j tables sets m).places f.places ∙ length-marked_places (module_of j m).base tables.places sets (first_place tables.tables m) (place_count tables.tables m)
counts_united j tables sets (m ∷ ms) (f ∷ fs) (suc k) n d l = counts_united j tables sets ms fs k n d (omega arith)
