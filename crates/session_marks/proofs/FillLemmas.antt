-- Marks that were made with empty sets, and are filled.
use Rattle.std.proofs.Common.{◌≡◌, ℕ, zero, suc, ◌+◌, ◌<◌, ◌≤◌, true, nat_lt, List, [], ◌∷◌, ◌++◌, length, take, drop, map, min, All, refl, sym, ap, ◌∙◌, arith, length-drop}
use Rattle.std.proofs.lemmas.List.{take-append-drop}
use Rattle.cov_base.specs.Lists.{Differ}
use Rattle.cov_base.specs.Meaning.{FactSet, is_filled}
use Rattle.brk_table.specs.Meaning.{TablesView, first_place, place_count, all_places}
use Rattle.brk_table.proofs.Laws.{range_most}
use Rattle.marks_file.specs.Meaning.{MarkedView, is_location, is_length, is_original, are_places, end_location, is_new_name, is_base, is_size, is_count, are_modules, is_module_count, are_marks}
use Rattle.marks_file.proofs.Laws.{is_place, is_module}
use Rattle.std.proofs.lemmas.List.Elements.{All-cons, All-nil}
use Rattle.std.proofs.lemmas.Bool.{ltb-true, and_parts}
use Rattle.cov_base.specs.declared.facts.Kind.{Kind}
use Rattle.session_book.specs.Meaning.{module_of, JobView}
use Rattle.phase_plan.specs.Sets.{AreWithin}
use Rattle.session_marks.specs.Fields.{HasGoodFields, AreHalfwords}
use Rattle.session_marks.proofs.ModuleLemmas.{AreTabled, own_places_kept, marks_kept}
use Rattle.marks_file.specs.declared.marks.MarkedPlace.{MarkedPlace}
use Rattle.module_area.specs.declared.places.Place.{Place}
use Rattle.session_marks.specs.Filled.{with_sets, filled_module, filled, AreThere}
use Rattle.session_marks.specs.Meaning.{marked_places, marked_place, marked_module}
use Rattle.session_marks.proofs.RuleLemmas.{length-marked_places}

none_filled : (tables : TablesView) (sets : ℕ → FactSet) (ms : List MarkedView) (ns : List ℕ) → min (length ms) (length ns) ≡ 0 → filled tables sets ms ns ≡ ms
none_filled tables sets [] ns e = refl
none_filled tables sets (m ∷ ms) [] e = refl
none_filled tables sets (m ∷ ms) (n ∷ ns) e = absurd (omega arith)

pub all_filled : (tables : TablesView) (sets : ℕ → FactSet) (ms : List MarkedView) (ns : List ℕ) (i : ℕ) (all : List MarkedView) → min (length ms) (length ns) ≤ i → take i ms ++ filled tables sets (drop i ms) (drop i ns) ≡ all → ms ≡ all
all_filled tables sets ms ns i all h e =
    let none : min (length (drop i ms)) (length (drop i ns)) ≡ 0 = omega (arith, length-drop i ms, length-drop i ns) in
    sym (take-append-drop i ms) ∙ (ap (λ t. take i ms ++ t) (sym (none_filled tables sets (drop i ms) (drop i ns) none)) ∙ e)

places_filled : (base : ℕ) (places : List Place) (old new : ℕ → FactSet) (n count : ℕ) → with_sets new n (marked_places base places old n count) ≡ marked_places base places new n count
places_filled base places old new n zero = refl
places_filled base places old new n (suc count) = ap (λ (ps : List MarkedPlace). marked_place base places new n ∷ ps) (places_filled base places old new (n + 1) count)

pub modules_are_filled : (j : JobView) (tables : TablesView) (old new : ℕ → FactSet) (ms : List ℕ) → filled tables new (map (marked_module j tables old) ms) ms ≡ map (marked_module j tables new) ms
modules_are_filled j tables old new [] = refl
modules_are_filled j tables old new (m ∷ ms) =
    let one : filled_module new (first_place tables.tables m) (marked_module j tables old m) ≡ marked_module j tables new m =
    ap (λ (ps : List MarkedPlace). record (marked_module j tables new m) { places = ps }) (places_filled (marked_module j tables old m).base tables.places old new (first_place tables.tables m) (place_count tables.tables m)) in
    ap (λ (x : MarkedView). x ∷ filled tables new (map (marked_module j tables old) ms) ms) one ∙ ap (λ (xs : List MarkedView). marked_module j tables new m ∷ xs) (modules_are_filled j tables old new ms)

pub are_there : (j : JobView) (tables : TablesView) (sets : ℕ → FactSet) (ms : List ℕ) → tables.places ≡ all_places tables.tables → AreThere tables (map (marked_module j tables sets) ms) ms
are_there j tables sets [] e = tt
are_there j tables sets (m ∷ ms) e =
    let size = length-marked_places (marked_module j tables sets m).base tables.places sets (first_place tables.tables m) (place_count tables.tables m) in
    let all = range_most tables.tables m in
    (omega (arith, size, all, ap length e), are_there j tables sets ms e)

-- ---- the filled marks keep the rules of a file

half_of : (len : ℕ) (kind : Kind) (half : ℕ) → is_original len kind half ≡ true → half < 65536
unfolding is_original
half_of len kind half h = ltb-true half 65536 (and_parts (nat_lt half 65536) _ h).0

halfwords : (size end : ℕ) (ps : List MarkedPlace) → are_places size end ps ≡ true → AreHalfwords ps
halfwords size end [] h = All-nil (λ (p : MarkedPlace). p.original < 65536)
halfwords size end (p ∷ ps) h =
    let one = (and_parts (is_place size end p) (are_places size (end_location p) ps) h).0 in
    let rest = (and_parts (is_length size p.location p.len) _ (and_parts (is_location size end p.location) _ one).1).1 in
    All-cons (λ (x : MarkedPlace). x.original < 65536) p ps (half_of p.len p.kind p.original (and_parts (is_original p.len p.kind p.original) _ rest).0)
    (halfwords size (end_location p) ps (and_parts (is_place size end p) (are_places size (end_location p) ps) h).1)

halfwords_kept : (base : ℕ) (places : List Place) (old new : ℕ → FactSet) (n count : ℕ) → AreHalfwords (marked_places base places old n count) → AreHalfwords (marked_places base places new n count)
halfwords_kept base places old new n zero h = All-nil (λ (p : MarkedPlace). p.original < 65536)
halfwords_kept base places old new n (suc count) h =
    All-cons (λ (p : MarkedPlace). p.original < 65536) (marked_place base places new n) (marked_places base places new (n + 1) count) (h 0 (marked_place base places old n) (omega arith))
    (halfwords_kept base places old new (n + 1) count (λ k d l. h (suc k) d (omega arith)))

name_filled : (earlier : List MarkedView) (field : List ℕ) → is_new_name earlier field ≡ true → is_filled field ≡ true
unfolding is_new_name
name_filled earlier field h = (and_parts (is_filled field) _ h).0

fields_of : (earlier ms : List MarkedView) → are_modules earlier ms ≡ true → All HasGoodFields ms
fields_of earlier [] h = All-nil HasGoodFields
fields_of earlier (m ∷ ms) h =
    let one = (and_parts (is_module earlier m) (are_modules (earlier ++ m ∷ []) ms) h).0 in
    let second = (and_parts (is_new_name earlier m.name) _ one).1 in
    let third = (and_parts (is_base m.base) _ second).1 in
    let fourth = (and_parts (is_size earlier m.base m.size) _ third).1 in
    All-cons HasGoodFields m ms (record { name = name_filled earlier m.name (and_parts (is_new_name earlier m.name) _ one).0; places = (and_parts (is_count earlier (length m.places)) _ fourth).1 })
    (fields_of (earlier ++ m ∷ []) ms (and_parts (is_module earlier m) _ h).1)

fields_kept : (j : JobView) (tables : TablesView) (old new : ℕ → FactSet) (ms : List ℕ) → AreTabled j tables → All (λ m. m < length j.images) ms → All (AreWithin tables new) ms → All HasGoodFields (map (marked_module j tables old) ms) → All HasGoodFields (map (marked_module j tables new) ms)
fields_kept j tables old new [] are exist within h = All-nil HasGoodFields
fields_kept j tables old new (m ∷ ms) are exist within h =
    let was : HasGoodFields (marked_module j tables old m) = h 0 (marked_module j tables old m) (omega arith) in
    let halves = halfwords_kept (module_of j m).base tables.places old new (first_place tables.tables m) (place_count tables.tables m) (halfwords (length (module_of j m).bytes) 0 (marked_module j tables old m).places was.places) in
    All-cons HasGoodFields (marked_module j tables new m) (map (marked_module j tables new) ms)
    (record { name = was.name; places = own_places_kept j tables new m are (exist 0 m (omega arith)) (within 0 m (omega arith)) halves })
    (fields_kept j tables old new ms are (λ k d l. exist (suc k) d (omega arith)) (λ k d l. within (suc k) d (omega arith)) (λ k d l. h (suc k) d (omega arith)))

pub filled_are_marks : (j : JobView) (tables : TablesView) (old new : ℕ → FactSet) (ms : List ℕ) → AreTabled j tables → 1 ≤ length ms → All (λ m. m < length j.images) ms → Differ ms → All (AreWithin tables new) ms →
    are_marks (map (marked_module j tables old) ms) ≡ true → are_marks (map (marked_module j tables new) ms) ≡ true
filled_are_marks j tables old new ms are some exist differ within h =
    let fields = fields_of [] (map (marked_module j tables old) ms) (and_parts (is_module_count (length (map (marked_module j tables old) ms))) _ h).1 in
    marks_kept j tables new ms are.job are.are some exist differ (fields_kept j tables old new ms are exist within fields)
