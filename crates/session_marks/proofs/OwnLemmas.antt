-- A file in which no row differs is the session's marks with some sets.
use Rattle.std.proofs.Common.{◌≡◌, ◌≢◌, ◌⊎◌, inl, inr, ℕ, ◌+◌, ◌<◌, ◌≤◌, zero, suc, Bool, true, false, if◌then◌else◌, nat_eq, Option, Some, None, List, [], ◌∷◌, length, get_or, refl, ap, sym, ◌∙◌, subst, arith}
use Rattle.std.proofs.lemmas.Slice.Eq.{bytes_eq-Decides}
use Rattle.std.specs.Str.{bytes_eq}
use Rattle.std.proofs.lemmas.List.{length-map, get_or_default}
use Rattle.std.proofs.lemmas.Bool.{ne_eqb, eq-eqb}
use Rattle.cov_base.specs.Lists.{Differ}
use Rattle.cov_base.specs.Meaning.{FactSet}
use Rattle.marks_file.specs.Meaning.{modules_bytes, MarkedView, are_marks, rows, Difference, first_difference, unite}
use Rattle.marks_file.specs.declared.marks.MarkedPlace.{MarkedPlace}
use Rattle.marks_file.proofs.Laws.{marks_have_rows, one_table, union_is_marks, length-unite, files_turned, same_cons, same_tables}
use Rattle.brk_table.specs.Meaning.{TableView, TablesView, first_place, place_count}
use Rattle.session_book.specs.Meaning.{JobView, session_of}
use Rattle.session_marks.specs.Meaning.{marked_module, session_marks, session_rows}
use Rattle.session_marks.specs.FromFile.{HasSetsAt, HaveSetsAt, IsOwn, IsDecided}
use Rattle.session_marks.proofs.SetsLemmas.{empty, file_kept, modules_filled, sets_step}
use Rattle.session_marks.proofs.SessionLemmas.{own_same, sets_one, counts_united}

-- rows in which there is no difference are the same
went_on : (c : Bool) (x : Option Difference) (d : Difference) → (if c then x else Some d) ≡ None → (c ≡ true) × (x ≡ None)
went_on true x d h = (refl, h)
went_on false x d h = absurd cc

equal_rows : (n : ℕ) (xs ys : List (List ℕ)) → first_difference n xs ys ≡ None → xs ≡ ys
equal_rows n [] [] h = refl
equal_rows n (x ∷ xs) [] h = absurd cc
equal_rows n [] (y ∷ ys) h = absurd cc
equal_rows n (x ∷ xs) (y ∷ ys) h =
    let same = went_on (bytes_eq x y) (first_difference (n + 1) xs ys) (record { row = n; left = Some x; right = Some y }) h in
    same_cons x y xs ys ((bytes_eq-Decides x y).0 same.0) (equal_rows (n + 1) xs ys same.1)

-- these places' sets from number n on, and the others before them
put_sets : (ℕ → FactSet) → ℕ → List MarkedPlace → ℕ → FactSet
put_sets before n [] k = before k
put_sets before n (p ∷ ps) k = if nat_eq k n then p.set else put_sets before (n + 1) ps k

put_here : (before : ℕ → FactSet) (n k : ℕ) (p : MarkedPlace) (ps : List MarkedPlace) → k ≡ n → put_sets before n (p ∷ ps) k ≡ p.set
unfolding put_sets
put_here before n k p ps e = rw (eq-eqb k n e) refl

put_past : (before : ℕ → FactSet) (n k : ℕ) (p : MarkedPlace) (ps : List MarkedPlace) → k ≢ n → put_sets before n (p ∷ ps) k ≡ put_sets before (n + 1) ps k
unfolding put_sets
put_past before n k p ps e = rw (ne_eqb k n e) refl

put_there : (before : ℕ → FactSet) (n : ℕ) (ps : List MarkedPlace) → HasSetsAt (put_sets before n ps) n ps
put_there before n [] k d l = absurd (omega arith)
put_there before n (p ∷ ps) zero d l = put_here before n (n + 0) p ps (omega arith)
put_there before n (p ∷ ps) (suc k) d l = put_past before n (n + suc k) p ps (omega arith) ∙ (ap (put_sets before (n + 1) ps) (omega arith) ∙ put_there before (n + 1) ps k d (omega arith))

put_others : (before : ℕ → FactSet) (n : ℕ) (ps : List MarkedPlace) (k : ℕ) → (k < n) ⊎ (n + length ps ≤ k) → put_sets before n ps k ≡ before k
unfolding put_sets
put_others before n [] k o = refl
put_others before n (p ∷ ps) k (inl low) = put_past before n k p ps (omega arith) ∙ put_others before (n + 1) ps k (inl (omega arith))
put_others before n (p ∷ ps) k (inr high) = put_past before n k p ps (omega arith) ∙ put_others before (n + 1) ps k (inr (omega arith))

-- the sets of the first so many of a file's modules
sets_upto : List TableView → List ℕ → List MarkedView → MarkedView → ℕ → ℕ → FactSet
sets_upto tables modules file d zero = empty
sets_upto tables modules file d (suc i) = put_sets (sets_upto tables modules file d i) (first_place tables (get_or modules i 0)) (get_or file i d).places

have_upto : (tables : List TableView) (modules : List ℕ) (file : List MarkedView) (d : MarkedView) (i : ℕ)
    → Differ modules → i ≤ length modules → length file ≡ length modules
    → ((k n : ℕ) (d : MarkedView) → k < length modules → length (get_or file k d).places ≡ place_count tables (get_or modules k n))
    → HaveSetsAt tables (sets_upto tables modules file d i) i modules file
unfolding sets_upto
have_upto tables modules file d zero differ below many counts = λ k n e l. absurd (omega arith)
have_upto tables modules file d (suc i) differ below many counts =
    let before = sets_upto tables modules file d i in
    let m = get_or modules i 0 in
    let f = get_or file i d in
    let here : i < length modules = omega arith in
    let earlier : HaveSetsAt tables before i modules file = have_upto tables modules file d i differ (omega arith) many counts in
    let step : HaveSetsAt tables (put_sets before (first_place tables m) f.places) (i + 1) modules file =
    sets_step tables before (put_sets before (first_place tables m) f.places) i m modules file f differ here many counts refl (get_or_default file i d f (omega arith)) earlier
    (put_there before (first_place tables m) f.places) (put_others before (first_place tables m) f.places) in
    subst (λ k. HaveSetsAt tables (put_sets before (first_place tables m) f.places) k modules file) (omega arith) step

-- the union of the session's table and a file of it is the file
united : (own file : List MarkedView) → are_marks own ≡ true → are_marks file ≡ true → unite file own ≡ file → rows own ≡ rows file → unite own file ≡ file
united own file h g kept e =
    let table = same_tables own file (marks_have_rows own h) (marks_have_rows file g) e in
    one_table (unite own file) file (union_is_marks own file h g table) g (files_turned own file table ∙ ap modules_bytes kept)

no_module : MarkedView
no_module = record { name = []; base = 0; size = 0; places = [] }

own_found : (j : JobView) (tables : TablesView) (s : ℕ) (file : List MarkedView) → Differ (session_of j s).modules → are_marks (session_marks j tables empty s) ≡ true → are_marks file ≡ true
    → first_difference 0 (session_rows j tables s) (rows file) ≡ None → IsOwn j tables s file
own_found j tables s file differ h g none =
    let ms = (session_of j s).modules in
    let own = session_marks j tables empty s in
    let is : unite own file ≡ file = united own file h g (file_kept j tables ms file) (equal_rows 0 (session_rows j tables s) (rows file) none) in
    let many : length file ≡ length ms = ap length (sym is) ∙ (length-unite own file ∙ length-map ms (marked_module j tables empty)) in
    let counts : (k n : ℕ) (d : MarkedView) → k < length ms → length (get_or file k d).places ≡ place_count tables.tables (get_or ms k n) =
    λ k n d l. ap (λ (x : List MarkedView). length (get_or x k d).places) (sym is) ∙ counts_united j tables empty ms file k n d l in
    let sets = sets_upto tables.tables ms file no_module (length ms) in
    let have : HaveSetsAt tables.tables sets (length ms) ms file = have_upto tables.tables ms file no_module (length ms) differ (omega arith) many counts in
    record {
      sets = sets;
      is = sym (modules_filled j tables sets ms file (subst (HaveSetsAt tables.tables sets (length ms) ms) (sym is) have) ∙ is);
    }

-- each file has one answer
pub decided : (j : JobView) (tables : TablesView) (s : ℕ) (file : List MarkedView) → Differ (session_of j s).modules → IsDecided j tables s file
decided j tables s file differ = record {
  own = own_same j tables s file;
  found = own_found j tables s file differ;
  one = λ sets others. sets_one j tables sets others s file;
}

-- a file that was united with the session's table
pub united_sets : (j : JobView) (tables : TablesView) (s : ℕ) (file own : List MarkedView) (sets : ℕ → FactSet) → own ≡ unite (session_marks j tables empty s) file
    → unite (session_marks j tables empty s) file ≡ unite file (session_marks j tables empty s)
    → HaveSetsAt tables.tables sets (length (session_of j s).modules) (session_of j s).modules own → file ≡ session_marks j tables sets s
united_sets j tables s file own sets e turned have =
    let ms = (session_of j s).modules in
    let is : own ≡ file = e ∙ (turned ∙ file_kept j tables ms file) in
    sym is ∙ (e ∙ sym (modules_filled j tables sets ms file (subst (HaveSetsAt tables.tables sets (length ms) ms) e have)))
