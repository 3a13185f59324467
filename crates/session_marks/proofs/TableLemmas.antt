-- The table of a module among those of a job, and how many places modules have together.
use Rattle.std.proofs.Common.{◌≡◌, ◌≢◌, ◌⊎◌, inl, inr, ℕ, ◌+◌, ◌-◌, ◌<◌, ◌≤◌, suc, List, [], ◌∷◌, ◌++◌, length, All, refl, sym, ap, ◌∙◌, arith, length-append}
use Rattle.std.proofs.lemmas.Bool.{cases_eq}
use Rattle.std.proofs.lemmas.List.{get_or_append_left, get_or-append_right}
use Rattle.std.proofs.lemmas.List.Elements.{All-tail}
use Rattle.cov_base.specs.Lists.{Differ}
use Rattle.cov_base.specs.Meaning.{ImageView}
use Rattle.module_area.specs.Meaning.{place_of, no_place}
use Rattle.brk_table.specs.Meaning.{TableView, all_places, first_place, place_count}
use Rattle.brk_table.specs.Together.{IsTableOf}
use Rattle.brk_table.proofs.Laws.{first-here, count-here, first-past, count-past}

-- the table of module m
pub record OwnTable (images : List ImageView) (tables : List TableView) (m : ℕ) : Type 0 where
  pub table : TableView
  pub is : IsTableOf images table
  pub of : table.«module» ≡ m
  pub count : place_count tables m ≡ length table.places
  pub place : (k : ℕ) → k < length table.places → place_of (all_places tables) (first_place tables m + k) ≡ place_of table.places k

own_here : (images : List ImageView) (t : TableView) (ts : List TableView) (m : ℕ) → IsTableOf images t → t.«module» ≡ m → OwnTable images (t ∷ ts) m
own_here images t ts m is of = record {
  table = t;
  is = is;
  of = of;
  count = count-here t ts m of;
  place = λ k l. (let at : first_place (t ∷ ts) m + k ≡ k = omega (arith, first-here t ts m of) in
      ap (place_of (t.places ++ all_places ts)) at ∙ get_or_append_left t.places (all_places ts) no_place k l);
}

own_later : (images : List ImageView) (t : TableView) (ts : List TableView) (m : ℕ) → t.«module» ≢ m → OwnTable images ts m → OwnTable images (t ∷ ts) m
own_later images t ts m differ o = record {
  table = o.table;
  is = o.is;
  of = o.of;
  count = count-past t ts m differ ∙ o.count;
  place = λ k l. (let at : first_place (t ∷ ts) m + k ≡ length t.places + (first_place ts m + k) = omega (arith, first-past t ts m differ) in
      let past = get_or-append_right t.places (all_places ts) (length t.places) (length t.places + (first_place ts m + k)) no_place refl (omega arith) in
      let rest : length t.places + (first_place ts m + k) - length t.places ≡ first_place ts m + k = omega arith in
      ap (place_of (t.places ++ all_places ts)) at ∙ (past ∙ (ap (place_of (all_places ts)) rest ∙ o.place k l)));
}

-- a module without places, or with a table of its own
pub own_table : (images : List ImageView) (tables : List TableView) (m : ℕ) → All (IsTableOf images) tables → (place_count tables m ≡ 0) ⊎ OwnTable images tables m
own_table images [] m are = inl refl
own_table images (t ∷ ts) m are = elim (cases_eq t.«module» m) [
  | inl of ↦ inr (own_here images t ts m (are 0 t (omega arith)) of)
  | inr differ ↦ elim (own_table images ts m (All-tail (IsTableOf images) t ts are)) [
    | inl none ↦ inl (count-past t ts m differ ∙ none)
    | inr o ↦ inr (own_later images t ts m differ o)
  ]
]

-- how many places these modules have together
abbrev pub count_of : List TableView → List ℕ → ℕ
count_of tables [] = 0
count_of tables (m ∷ ms) = place_count tables m + count_of tables ms

pub first_differs : (m : ℕ) (ms : List ℕ) → Differ (m ∷ ms) → All (λ n. m ≢ n) ms
first_differs m ms h k d l = h 0 (suc k) d (omega arith) (omega arith)

pub rest_differs : (m : ℕ) (ms : List ℕ) → Differ (m ∷ ms) → Differ ms
rest_differs m ms h j k d l b = h (suc j) (suc k) d (omega arith) (omega arith)

no_tables : (ms : List ℕ) → count_of [] ms ≡ 0
no_tables [] = refl
no_tables (m ∷ ms) = let rest = no_tables ms in omega (arith, rest)

none_here : (t : TableView) (ts : List TableView) (ms : List ℕ) → All (λ n. t.«module» ≢ n) ms → count_of (t ∷ ts) ms ≡ count_of ts ms
none_here t ts [] h = refl
none_here t ts (m ∷ ms) h =
    let first = count-past t ts m (h 0 m (omega arith)) in
    let rest = none_here t ts ms (All-tail (λ n. t.«module» ≢ n) m ms h) in
    omega (arith, first, rest)

one_table : (t : TableView) (ts : List TableView) (ms : List ℕ) → Differ ms → count_of (t ∷ ts) ms ≤ length t.places + count_of ts ms
one_table t ts [] h = omega arith
one_table t ts (m ∷ ms) h = elim (cases_eq t.«module» m) [
  | inl of ↦ (let first = count-here t ts m of in
      let rest = none_here t ts ms (λ k d l e. first_differs m ms h k d l (sym of ∙ e)) in
      omega (arith, first, rest))
  | inr differ ↦ (let first = count-past t ts m differ in
      let rest = one_table t ts ms (rest_differs m ms h) in
      omega (arith, first, rest))
]

-- different modules have no more places than all tables
pub counts_fit : (tables : List TableView) (ms : List ℕ) → Differ ms → count_of tables ms ≤ length (all_places tables)
counts_fit [] ms h = omega (arith, no_tables ms)
counts_fit (t ∷ ts) ms h = omega (arith, one_table t ts ms h, counts_fit ts ms h, length-append t.places (all_places ts))

pub count_more : (tables : List TableView) (ms : List ℕ) (m : ℕ) → count_of tables (ms ++ m ∷ []) ≡ count_of tables ms + place_count tables m
count_more tables [] m = omega arith
count_more tables (n ∷ ns) m = let rest = count_more tables ns m in omega (arith, rest)
