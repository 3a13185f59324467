-- What marks and a report say of a session hangs on the sets at its modules' places alone.
use Rattle.std.proofs.Common.{◌≡◌, ℕ, ◌+◌, ◌<◌, ◌≤◌, zero, suc, Bool, true, false, if◌then◌else◌, Option, Some, None, option_map, unwrap_or, List, [], ◌∷◌, ◌++◌, length, get_or, map, All, refl, sym, ap, ◌∙◌, subst, arith}
use Rattle.std.specs.List.{flat_map, range_with_len}
use Rattle.std.proofs.lemmas.List.Elements.{All-head, All-tail}
use Rattle.std.proofs.lemmas.List.FromFn.{get_or-range_with_len, length-range_with_len}
use Rattle.cov_base.specs.Meaning.{FactSet, mark_of}
use Rattle.cov_base.specs.declared.marks.Mark.TheVariants.{Text}
use Rattle.annotator.specs.Meaning.{annotated}
use Rattle.module_area.specs.Meaning.{place_of, fact_count}
use Rattle.module_area.specs.declared.places.Place.{Place}
use Rattle.brk_table.specs.Meaning.{TablesView, first_place, place_count, place_at_line}
use Rattle.session_book.specs.Meaning.{JobView, module_of, session_of}
use Rattle.marks_file.specs.declared.marks.MarkedPlace.{MarkedPlace}
use Rattle.session_marks.specs.Meaning.{marked_place, marked_module, session_marks}
use Rattle.session_marks.specs.FromFile.{AreSameAt}
use Rattle.report_text.specs.Meaning.{sum_from, lacks, last_byte_of, line_mark, marked_listing, run_end, run_lines, module_lines, session_line, session_part}
use Rattle.job_input.specs.Meaning.{Match}
use Rattle.round_trip.proofs.TableLemmas.{line_inside}

-- ---- lists

same_map : {X Y : Type 0} (f g : X → Y) (xs : List X) → All (λ x. f x ≡ g x) xs → map f xs ≡ map g xs
same_map f g [] h = refl
same_map f g (x ∷ xs) h = ap (λ y. y ∷ map f xs) (All-head (λ y. f y ≡ g y) x xs h) ∙ ap (λ ys. g x ∷ ys) (same_map f g xs (All-tail (λ y. f y ≡ g y) x xs h))

same_flat_map : {X Y : Type 0} (f g : X → List Y) (xs : List X) → All (λ x. f x ≡ g x) xs → flat_map f xs ≡ flat_map g xs
same_flat_map f g [] h = refl
same_flat_map f g (x ∷ xs) h = ap (λ ys. ys ++ flat_map f xs) (All-head (λ y. f y ≡ g y) x xs h) ∙ ap (λ ys. g x ++ ys) (same_flat_map f g xs (All-tail (λ y. f y ≡ g y) x xs h))

from_range : (P : ℕ → Type 0) (n count : ℕ) → ((k : ℕ) → n ≤ k → k < n + count → P k) → All P (range_with_len n count)
from_range P n count h i d l =
    let below : i < count = omega (arith, l, length-range_with_len n count) in
    subst P (sym (get_or-range_with_len n count i d below)) (h (n + i) (omega arith) (omega (arith, below)))

-- ---- marks

same_module : (j : JobView) (t : TablesView) (sets others : ℕ → FactSet) (m : ℕ) → AreSameAt t sets others m → marked_module j t sets m ≡ marked_module j t others m
same_module j t sets others m h =
    let place : (ℕ → FactSet) → ℕ → MarkedPlace = marked_place (module_of j m).base t.places in
    ap (λ (ps : List MarkedPlace). record (marked_module j t sets m) { places = ps })
    (same_map (place sets) (place others) (range_with_len (first_place t.tables m) (place_count t.tables m))
    (from_range (λ k. place sets k ≡ place others k) (first_place t.tables m) (place_count t.tables m) (λ k from to. ap (λ x. record (place sets k) { set = x }) (h k from to))))

pub same_marks : (j : JobView) (t : TablesView) (sets others : ℕ → FactSet) (s : ℕ) → All (AreSameAt t sets others) (session_of j s).modules → session_marks j t sets s ≡ session_marks j t others s
same_marks j t sets others s h = same_map (marked_module j t sets) (marked_module j t others) (session_of j s).modules (λ i d l. same_module j t sets others (get_or (session_of j s).modules i d) (h i d l))

-- ---- a report

-- of so many numbers from n on the sets are the same
abbrev Agree : (ℕ → FactSet) → (ℕ → FactSet) → ℕ → ℕ → Type 0
Agree sets others n count = (k : ℕ) → n ≤ k → k < n + count → sets k ≡ others k

later : (sets others : ℕ → FactSet) (n count : ℕ) → Agree sets others n (suc count) → Agree sets others (n + 1) count
later sets others n count h k from to = h k (omega (arith, from)) (omega (arith, to))

same_sum : (amount : FactSet → ℕ) (sets others : ℕ → FactSet) (n count : ℕ) → Agree sets others n count → sum_from (λ k. amount (sets k)) n count ≡ sum_from (λ k. amount (others k)) n count
same_sum amount sets others n zero h = refl
same_sum amount sets others n (suc count) h = rw (h n (omega arith) (omega arith), same_sum amount sets others (n + 1) count (later sets others n count h)) refl

same_end : (job : JobView) (places : List Place) (sets others : ℕ → FactSet) (last n count : ℕ) → Agree sets others n count → run_end job places sets last n count ≡ run_end job places others last n count
same_end job places sets others last n zero h = refl
same_end job places sets others last n (suc count) h =
    rw (h n (omega arith) (omega arith), same_end job places sets others (last_byte_of job (place_of places n)) (n + 1) count (later sets others n count h)) refl

same_runs : (job : JobView) (places : List Place) (sets others : ℕ → FactSet) (before : Bool) (n count : ℕ) → Agree sets others n count → run_lines job places sets before n count ≡ run_lines job places others before n count
same_runs job places sets others before n zero h = refl
same_runs job places sets others before n (suc count) h =
    let more = later sets others n count h in
    rw (
      h n (omega arith) (omega arith),
      same_end job places sets others (last_byte_of job (place_of places n)) (n + 1) count more,
      same_runs job places sets others true (n + 1) count more,
      same_runs job places sets others false (n + 1) count more,
    ) refl

-- the mark that a line has by the place that it has, if any
same_mark : (places : List Place) (sets others : ℕ → FactSet) (o : Option ℕ) → ((n : ℕ) → o ≡ Some n → sets n ≡ others n) →
    unwrap_or (option_map (λ n. mark_of (place_of places n).kind (sets n)) o) Text ≡ unwrap_or (option_map (λ n. mark_of (place_of places n).kind (others n)) o) Text
same_mark places sets others None h = refl
same_mark places sets others (Some n) h = ap (λ x. mark_of (place_of places n).kind x) (h n refl)

same_line : (j : JobView) (t : TablesView) (sets others : ℕ → FactSet) (m k : ℕ) → Match j t → AreSameAt t sets others m → line_mark t sets m k ≡ line_mark t others m k
same_line j t sets others m k match' h =
    same_mark t.places sets others (place_at_line t.tables m k) (λ n e. let i = line_inside j t m k n match' e in h n i.0 i.1)

same_listing : (j : JobView) (t : TablesView) (sets others : ℕ → FactSet) (m : ℕ) → Match j t → AreSameAt t sets others m → marked_listing j t sets m ≡ marked_listing j t others m
same_listing j t sets others m match' h =
    let lines : List (List ℕ) = unwrap_or (get_or j.listings m None) [] in
    let line : (ℕ → FactSet) → ℕ → List (List ℕ) = λ x i. annotated (line_mark t x m (i + 1)) (get_or lines i []) ∷ [] in
    same_flat_map (line sets) (line others) (range_with_len 0 (length lines))
    (from_range (λ i. line sets i ≡ line others i) 0 (length lines) (λ i from to. ap (λ x. annotated x (get_or lines i []) ∷ []) (same_line j t sets others m (i + 1) match' h)))

same_lines : (j : JobView) (t : TablesView) (sets others : ℕ → FactSet) (m : ℕ) → Match j t → AreSameAt t sets others m → module_lines j t sets m ≡ module_lines j t others m
unfolding module_lines
same_lines j t sets others m match' h =
    let first : ℕ = first_place t.tables m in
    let count : ℕ = place_count t.tables m in
    rw (
      same_listing j t sets others m match' h,
      same_sum (λ x. if lacks x then 0 else 1) sets others first count h,
      same_sum fact_count sets others first count h,
      same_runs j t.places sets others false first count h,
    ) refl

pub same_part : (j : JobView) (t : TablesView) (sets others : ℕ → ℕ → FactSet) (s : ℕ) → Match j t → All (AreSameAt t (sets s) (others s)) (session_of j s).modules → session_part j t sets s ≡ session_part j t others s
same_part j t sets others s match' h =
    ap (λ x. session_line (session_of j s).name (get_or j.phases (session_of j s).phase []) ∷ x)
    (same_flat_map (module_lines j t (sets s)) (module_lines j t (others s)) (session_of j s).modules (λ i d l. same_lines j t (sets s) (others s) (get_or (session_of j s).modules i d) match' (h i d l)))
