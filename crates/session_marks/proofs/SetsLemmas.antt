-- A file of the session's table is the session's marks with the file's sets.
use Rattle.std.proofs.Common.{◌≡◌, ◌≢◌, ◌⊎◌, inl, inr, ℕ, ◌+◌, ◌<◌, ◌≤◌, zero, suc, List, [], ◌∷◌, length, get_or, map, refl, ap, sym, ◌∙◌, subst, arith}
use Rattle.std.proofs.Math.Bool.{or-false}
use Rattle.std.proofs.lemmas.Bool.{cases_eq, cases_lt}
use Rattle.std.proofs.lemmas.List.{get_or_default}
use Rattle.cov_base.specs.Lists.{Differ}
use Rattle.cov_base.specs.Meaning.{FactSet, no_facts, union}
use Rattle.marks_file.specs.Meaning.{MarkedView, unite_place, unite_places, unite_module, unite}
use Rattle.marks_file.specs.declared.marks.MarkedPlace.{MarkedPlace}
use Rattle.module_area.specs.declared.places.Place.{Place}
use Rattle.brk_table.specs.Meaning.{TableView, TablesView, first_place, place_count}
use Rattle.brk_table.proofs.Laws.{first-here, count-here, first-past, count-past}
use Rattle.session_book.specs.Meaning.{JobView, module_of}
use Rattle.session_marks.specs.Meaning.{marked_places, marked_place, marked_module}
use Rattle.session_marks.specs.FromFile.{HasSetsAt, HaveSetsAt, IsOutside}
use Rattle.marks_file.proofs.Laws.{same_cons}

abbrev pub empty : ℕ → FactSet
empty n = no_facts

-- behind the end of a file nothing is united
no_more_places : (ps : List MarkedPlace) → unite_places ps [] ≡ ps
no_more_places [] = refl
no_more_places (p ∷ ps) = refl

pub no_more_modules : (ms : List MarkedView) → unite ms [] ≡ ms
no_more_modules [] = refl
no_more_modules (m ∷ ms) = refl

-- empty sets add nothing
none_added : (s : FactSet) → union s no_facts ≡ s
none_added s = rw (or-false s.ran, or-false s.went, or-false s.stayed) refl

places_kept : (base : ℕ) (places : List Place) (n count : ℕ) (qs : List MarkedPlace) → unite_places qs (marked_places base places empty n count) ≡ qs
places_kept base places n count [] = refl
places_kept base places n zero (q ∷ qs) = refl
places_kept base places n (suc count) (q ∷ qs) =
    same_cons (unite_place q (marked_place base places empty n)) q (unite_places qs (marked_places base places empty (n + 1) count)) qs
    (ap (λ s. record q { set = s }) (none_added q.set)) (places_kept base places (n + 1) count qs)

pub file_kept : (j : JobView) (tables : TablesView) (ms : List ℕ) (file : List MarkedView) → unite file (map (marked_module j tables empty) ms) ≡ file
file_kept j tables ms [] = refl
file_kept j tables [] (f ∷ fs) = refl
file_kept j tables (m ∷ ms) (f ∷ fs) =
    same_cons (unite_module f (marked_module j tables empty m)) f (unite fs (map (marked_module j tables empty) ms)) fs
    (ap (λ ps. record f { places = ps }) (places_kept (module_of j m).base tables.places (first_place tables.tables m) (place_count tables.tables m) f.places)) (file_kept j tables ms fs)

-- the places with these sets
pub filled : (base : ℕ) (places : List Place) (sets : ℕ → FactSet) (n count : ℕ) (qs : List MarkedPlace)
    → HasSetsAt sets n (unite_places (marked_places base places empty n count) qs) → marked_places base places sets n count ≡ unite_places (marked_places base places empty n count) qs
filled base places sets n zero qs h = refl
filled base places sets n (suc count) [] h =
    let p = marked_place base places empty n in
    let ps = marked_places base places empty (n + 1) count in
    let here : sets n ≡ no_facts = ap sets (omega arith) ∙ h 0 p (omega arith) in
    let later : HasSetsAt sets (n + 1) (unite_places ps []) = λ k d l. ap sets (omega arith) ∙ (h (suc k) d (omega (arith, ap length (no_more_places ps), l)) ∙ ap (λ xs. (get_or xs k d).set) (sym (no_more_places ps))) in
    same_cons (marked_place base places sets n) p (marked_places base places sets (n + 1) count) ps
    (ap (λ s. record p { set = s }) here)
    (filled base places sets (n + 1) count [] later ∙ no_more_places ps)
filled base places sets n (suc count) (q ∷ qs) h =
    let p = marked_place base places empty n in
    let ps = marked_places base places empty (n + 1) count in
    let here : sets n ≡ union no_facts q.set = ap sets (omega arith) ∙ h 0 p (omega arith) in
    let later : HasSetsAt sets (n + 1) (unite_places ps qs) = λ k d l. ap sets (omega arith) ∙ h (suc k) d (omega arith) in
    same_cons (marked_place base places sets n) (unite_place p q) (marked_places base places sets (n + 1) count) (unite_places ps qs)
    (ap (λ s. record p { set = s }) here)
    (filled base places sets (n + 1) count qs later)

module_filled : (j : JobView) (tables : TablesView) (sets : ℕ → FactSet) (m : ℕ) (qs : List MarkedPlace)
    → HasSetsAt sets (first_place tables.tables m) (unite_places (marked_module j tables empty m).places qs) → marked_module j tables sets m ≡ record (marked_module j tables empty m) { places = unite_places (marked_module j tables empty m).places qs }
module_filled j tables sets m qs h =
    ap (λ ps. record (marked_module j tables empty m) { places = ps }) (filled (module_of j m).base tables.places sets (first_place tables.tables m) (place_count tables.tables m) qs h)

-- the modules with these sets
pub modules_filled : (j : JobView) (tables : TablesView) (sets : ℕ → FactSet) (ms : List ℕ) (fs : List MarkedView)
    → HaveSetsAt tables.tables sets (length ms) ms (unite (map (marked_module j tables empty) ms) fs) → map (marked_module j tables sets) ms ≡ unite (map (marked_module j tables empty) ms) fs
modules_filled j tables sets [] fs h = refl
modules_filled j tables sets (m ∷ ms) [] h =
    let own = marked_module j tables empty m in
    let more = map (marked_module j tables empty) ms in
    let here : HasSetsAt sets (first_place tables.tables m) own.places = h 0 m own (omega arith) in
    let later : HaveSetsAt tables.tables sets (length ms) ms (unite more []) = λ i n d l. subst (λ xs. HasSetsAt sets (first_place tables.tables (get_or ms i n)) (get_or xs i d).places) (sym (no_more_modules more)) (h (suc i) n d (omega arith)) in
    same_cons (marked_module j tables sets m) own (map (marked_module j tables sets) ms) more
    (module_filled j tables sets m [] (subst (HasSetsAt sets (first_place tables.tables m)) (sym (no_more_places own.places)) here) ∙ ap (λ ps. record own { places = ps }) (no_more_places own.places))
    (modules_filled j tables sets ms [] later ∙ no_more_modules more)
modules_filled j tables sets (m ∷ ms) (f ∷ fs) h =
    let own = marked_module j tables empty m in
    let more = map (marked_module j tables empty) ms in
    same_cons (marked_module j tables sets m) (unite_module own f) (map (marked_module j tables sets) ms) (unite more fs)
    (module_filled j tables sets m f.places (h 0 m own (omega arith)))
    (modules_filled j tables sets ms fs (λ i n d l. h (suc i) n d (omega arith)))

-- of two modules the places of one have numbers past those of the other
abbrev AreFar : List TableView → ℕ → ℕ → Type 0
AreFar tables m n = (first_place tables m + place_count tables m ≤ first_place tables n) ⊎ (first_place tables n + place_count tables n ≤ first_place tables m)

far_past : (t : TableView) (ts : List TableView) (m n : ℕ) → t.«module» ≢ m → t.«module» ≢ n → AreFar ts m n → AreFar (t ∷ ts) m n
far_past t ts m n hm hn (inl h) = inl (omega (arith, h, first-past t ts m hm, count-past t ts m hm, first-past t ts n hn))
far_past t ts m n hm hn (inr h) = inr (omega (arith, h, first-past t ts n hn, count-past t ts n hn, first-past t ts m hm))

pub ranges_apart : (tables : List TableView) (m n : ℕ) → m ≢ n → AreFar tables m n
ranges_apart [] m n differ = inl (omega arith)
ranges_apart (t ∷ ts) m n differ =
    elim (cases_eq t.«module» m) as (λ _. AreFar (t ∷ ts) m n) [
      | inl here ↦ inl (omega (arith, first-here t ts m here, count-here t ts m here, first-past t ts n (λ e. differ (sym here ∙ e))))
      | inr past ↦ elim (cases_eq t.«module» n) as (λ _. AreFar (t ∷ ts) m n) [
        | inl here ↦ inr (omega (arith, first-here t ts n here, count-here t ts n here, first-past t ts m past))
        | inr far ↦ far_past t ts m n past far (ranges_apart ts m n differ)
      ]
    ]

-- sets that were put there stay where a later module's are put
kept_sets : (tables : List TableView) (before after : ℕ → FactSet) (m n : ℕ) (ps : List MarkedPlace) → m ≢ n → length ps ≡ place_count tables m → HasSetsAt before (first_place tables m) ps
    → ((k : ℕ) → (k < first_place tables n) ⊎ (first_place tables n + place_count tables n ≤ k) → after k ≡ before k) → HasSetsAt after (first_place tables m) ps
kept_sets tables before after m n ps differ count h others k d l =
    let number = first_place tables m + k in
    let outside : (number < first_place tables n) ⊎ (first_place tables n + place_count tables n ≤ number) = elim (ranges_apart tables m n differ) as (λ _. (number < first_place tables n) ⊎ (first_place tables n + place_count tables n ≤ number)) [
      | inl low ↦ inl (omega (arith, low, count, l))
      | inr high ↦ inr (omega (arith, high))
    ] in
    others number outside ∙ h k d l

pub sets_step : (tables : List TableView) (before after : ℕ → FactSet) (i m : ℕ) (modules : List ℕ) (file : List MarkedView) (f : MarkedView)
    → Differ modules → i < length modules → length file ≡ length modules
    → ((k n : ℕ) (d : MarkedView) → k < length modules → length (get_or file k d).places ≡ place_count tables (get_or modules k n))
    → m ≡ get_or modules i 0 → f ≡ get_or file i f → HaveSetsAt tables before i modules file → HasSetsAt after (first_place tables m) f.places
    → ((k : ℕ) → (k < first_place tables m) ⊎ (first_place tables m + length f.places ≤ k) → after k ≡ before k)
    → HaveSetsAt tables after (i + 1) modules file
sets_step tables before after i m modules file f differ below many counts em ef h here others k n d l = elim (cases_lt k i) as (λ _. HasSetsAt after (first_place tables (get_or modules k n)) (get_or file k d).places) [
  | inl earlier ↦
      let e : get_or modules i n ≡ m = get_or_default modules i n 0 below ∙ sym em in
      let apart : get_or modules k n ≢ m = λ same. differ k i n earlier below (same ∙ sym e) in
      let count : length f.places ≡ place_count tables m = ap (λ (x : MarkedView). length x.places) ef ∙ (counts i n f below ∙ ap (place_count tables) e) in
      kept_sets tables before after (get_or modules k n) m (get_or file k d).places apart (counts k n d (omega arith)) (h k n d earlier) (λ x o. others x (elim o as (λ _. (x < first_place tables m) ⊎ (first_place tables m + length f.places ≤ x)) [ inl a ↦ inl a | inr b ↦ inr (omega (arith, b, count)) ]))
  | inr past ↦
      let is : k ≡ i = omega arith in
      let e : get_or modules k n ≡ m = ap (λ x. get_or modules x n) is ∙ (get_or_default modules i n 0 below ∙ sym em) in
      let own : get_or file k d ≡ f = ap (λ x. get_or file x d) is ∙ (get_or_default file i d f (omega (arith, below, many)) ∙ sym ef) in
      subst (λ x. HasSetsAt after (first_place tables x) (get_or file k d).places) (sym e) (subst (λ (x : MarkedView). HasSetsAt after (first_place tables m) x.places) (sym own) here)
]

-- where no place of the next module is, nothing is put
pub outside_step : (tables : List TableView) (before after : ℕ → FactSet) (i m : ℕ) (modules : List ℕ) (f : MarkedView) → i < length modules → m ≡ get_or modules i 0 → length f.places ≡ place_count tables m
    → ((n : ℕ) → ((k q : ℕ) → k < i → IsOutside tables (get_or modules k q) n) → before n ≡ no_facts)
    → ((k : ℕ) → (k < first_place tables m) ⊎ (first_place tables m + length f.places ≤ k) → after k ≡ before k)
    → (n : ℕ) → ((k q : ℕ) → k < i + 1 → IsOutside tables (get_or modules k q) n) → after n ≡ no_facts
outside_step tables before after i m modules f below em count h others n out =
    let here : IsOutside tables m n = subst (λ x. IsOutside tables x n) (sym em) (out i 0 (omega arith)) in
    let past : (n < first_place tables m) ⊎ (first_place tables m + length f.places ≤ n) = elim here as (λ _. (n < first_place tables m) ⊎ (first_place tables m + length f.places ≤ n)) [ inl a ↦ inl a | inr b ↦ inr (omega (arith, b, count)) ] in
    others n past ∙ h n (λ k q l. out k q (omega arith))
