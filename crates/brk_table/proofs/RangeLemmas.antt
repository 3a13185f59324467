-- The numbers of a module's places.
use Rattle.std.proofs.Common.{◌≡◌, ℕ, ◌+◌, ◌-◌, ◌<◌, ◌≤◌, inl, inr, Bool, true, false, Option, Some, None, option_map, IfSome, List, [], ◌∷◌, length, get_or, drop, nat_eq, if◌then◌else◌, refl, sym, ap, ◌∙◌, arith, length-append}
use Rattle.std.proofs.lemmas.Bool.{cases_lt, ne_eqb, eq-eqb}
use Rattle.cov_base.specs.declared.numbers.PlaceNo.{PlaceNo}
use Rattle.std.proofs.lemmas.Bool.Decides.{nat_tests}
use Rattle.std.proofs.lemmas.List.{drop_more, drop_all, get_or_past}
use Rattle.brk_table.specs.Meaning.{TableView, all_places, first_place, place_count, entry_of_line, place_at_line}
use Rattle.brk_table.specs.Places.{HasItsPlaces}

-- a module's places are some of all
pub range_most : (ts : List TableView) (m : ℕ) → first_place ts m + place_count ts m ≤ length (all_places ts)
range_most [] m = omega arith
range_most (t ∷ ts) m = by_module (nat_eq t.«module» m) refl (range_most ts m)
  where
    by_module : (q : Bool) → nat_eq t.«module» m ≡ q → first_place ts m + place_count ts m ≤ length (all_places ts) → first_place (t ∷ ts) m + place_count (t ∷ ts) m ≤ length (all_places (t ∷ ts))
    by_module true e more = let size = length-append t.places (all_places ts) in rw e (omega (arith, size))
    by_module false e more = let size = length-append t.places (all_places ts) in rw e (omega (arith, size, more))

-- the module's table is met
pub first-here : (t : TableView) (ts : List TableView) (m : ℕ) → t.«module» ≡ m → first_place (t ∷ ts) m ≡ 0
first-here t ts m h = rw (eq-eqb t.«module» m h) refl

pub count-here : (t : TableView) (ts : List TableView) (m : ℕ) → t.«module» ≡ m → place_count (t ∷ ts) m ≡ length t.places
count-here t ts m h = rw (eq-eqb t.«module» m h) refl

pub line-here : (t : TableView) (ts : List TableView) (m k : ℕ) → t.«module» ≡ m → place_at_line (t ∷ ts) m k ≡ entry_of_line t.lines k
line-here t ts m k h = rw (eq-eqb t.«module» m h) refl

-- another one is passed
pub first-past : (t : TableView) (ts : List TableView) (m : ℕ) → (t.«module» ≡ m → ⊥) → first_place (t ∷ ts) m ≡ length t.places + first_place ts m
first-past t ts m h = rw (ne_eqb t.«module» m h) refl

pub count-past : (t : TableView) (ts : List TableView) (m : ℕ) → (t.«module» ≡ m → ⊥) → place_count (t ∷ ts) m ≡ place_count ts m
count-past t ts m h = rw (ne_eqb t.«module» m h) refl

pub line-past : (t : TableView) (ts : List TableView) (m k : ℕ) → (t.«module» ≡ m → ⊥) → place_at_line (t ∷ ts) m k ≡ option_map (λ n. length t.places + n) (place_at_line ts m k)
line-past t ts m k h = rw (ne_eqb t.«module» m h) refl

shifted : (a b : ℕ) (o : Option ℕ) → option_map (λ n. a + b + n) o ≡ option_map (λ n. a + n) (option_map (λ n. b + n) o)
shifted a b None = refl
shifted a b (Some n) = ap Some (omega arith)

-- what is known of the tables from the next one on
pub record AtTable (all rest : List TableView) (m first : ℕ) : Type 0 where
  pub before : first + first_place rest m ≡ first_place all m
  pub count : place_count rest m ≡ place_count all m
  pub room : first + length (all_places rest) ≡ length (all_places all)
  pub lines : (k : ℕ) → option_map (λ n. first + n) (place_at_line rest m k) ≡ place_at_line all m k

unshifted : (o : Option ℕ) → option_map (λ n. 0 + n) o ≡ o
unshifted None = refl
unshifted (Some n) = ap Some (omega arith)

pub at_start : (all : List TableView) (m : ℕ) → AtTable all all m 0
at_start all m = record { before = omega arith; count = refl; room = omega arith; lines = λ k. unshifted (place_at_line all m k) }

pub at_next : (all rest : List TableView) (t : TableView) (m first : ℕ) → AtTable all (t ∷ rest) m first → (t.«module» ≡ m → ⊥) → AtTable all rest m (first + length t.places)
at_next all rest t m first h differ = record {
  before = omega (arith, h.before, first-past t rest m differ);
  count = sym (count-past t rest m differ) ∙ h.count;
  room = omega (arith, h.room, length-append t.places (all_places rest));
  lines = λ k. shifted first (length t.places) (place_at_line rest m k) ∙ ap (option_map (λ n. first + n)) (sym (line-past t rest m k differ)) ∙ h.lines k;
}

pub table_next : (all ts : List TableView) (i m first : ℕ) (t : TableView) → i < length ts → t ≡ get_or ts i t → AtTable all (drop i ts) m first → (t.«module» ≡ m → ⊥) → AtTable all (drop (i + 1) ts) m (first + length t.places)
table_next all ts i m first t below is h differ =
    let at : drop i ts ≡ t ∷ drop (i + 1) ts = drop_more ts i t below ∙ ap (λ x. x ∷ drop (i + 1) ts) (sym is) in
    at_next all (drop (i + 1) ts) t m first (rw at at h) differ

-- what is known at the module's table
pub record AtOwnTable (all : List TableView) (t : TableView) (m first : ℕ) : Type 0 where
  pub before : first ≡ first_place all m
  pub count : length t.places ≡ place_count all m
  pub room : first + length t.places ≤ length (all_places all)
  pub lines : (k : ℕ) → option_map (λ n. first + n) (entry_of_line t.lines k) ≡ place_at_line all m k

at_own : (all rest : List TableView) (t : TableView) (m first : ℕ) → AtTable all (t ∷ rest) m first → t.«module» ≡ m → AtOwnTable all t m first
at_own all rest t m first h is = record {
  before = omega (arith, h.before, first-here t rest m is);
  count = sym (count-here t rest m is) ∙ h.count;
  room = omega (arith, h.room, length-append t.places (all_places rest));
  lines = λ k. ap (option_map (λ n. first + n)) (sym (line-here t rest m k is)) ∙ h.lines k;
}

pub table_found : (all ts : List TableView) (i m first : ℕ) (t : TableView) → i < length ts → t ≡ get_or ts i t → AtTable all (drop i ts) m first → t.«module» ≡ m → AtOwnTable all t m first
table_found all ts i m first t below is h own =
    let at : drop i ts ≡ t ∷ drop (i + 1) ts = drop_more ts i t below ∙ ap (λ x. x ∷ drop (i + 1) ts) (sym is) in
    at_own all (drop (i + 1) ts) t m first (rw at at h) own

-- what is known of each table on the way
pub table_room : (all ts : List TableView) (i m first : ℕ) (t : TableView) → i < length ts → t ≡ get_or ts i t → AtTable all (drop i ts) m first → first + length t.places ≤ length (all_places all)
table_room all ts i m first t below is h =
    let at : drop i ts ≡ t ∷ drop (i + 1) ts = drop_more ts i t below ∙ ap (λ x. x ∷ drop (i + 1) ts) (sym is) in
    let known : AtTable all (t ∷ drop (i + 1) ts) m first = rw at at h in
    omega (arith, known.room, length-append t.places (all_places (drop (i + 1) ts)))

-- there is none
pub record AtNoTable (all : List TableView) (m first : ℕ) : Type 0 where
  pub before : first ≡ first_place all m
  pub count : 0 ≡ place_count all m
  pub room : first ≤ length (all_places all)
  pub lines : (k : ℕ) → None ≡ place_at_line all m k

at_none : (all : List TableView) (m first : ℕ) → AtTable all [] m first → AtNoTable all m first
at_none all m first h = record { before = omega (arith, h.before); count = h.count; room = omega (arith, h.room); lines = h.lines }

pub table_end : (all ts : List TableView) (i m first : ℕ) → length ts ≤ i → AtTable all (drop i ts) m first → AtNoTable all m first
table_end all ts i m first past h = at_none all m first (rw (drop_all i ts past) at h)

-- the place that a line names is one of the table's
place_inside : (first size : ℕ) (e : Option ℕ) (r : Option PlaceNo) → IfSome e (λ i. i < size) → option_map (λ (p : PlaceNo). p.0) r ≡ option_map (λ i. first + i) e → IfSome r (λ p. (first ≤ p.0) × (p.0 < first + size))
place_inside first size e None h is = tt
place_inside first size None (Some p) h is = absurd cc
place_inside first size (Some i) (Some p) h is = let number : p.0 ≡ first + i = cc in (omega arith, omega arith)

entry_at : (t : TableView) (k : ℕ) → HasItsPlaces t → IfSome (get_or t.lines k None) (λ i. i < length t.places)
entry_at t k h = elim (cases_lt k (length t.lines)) [
  | inl below ↦ h k None below
  | inr past ↦ let none : get_or t.lines k None ≡ None = get_or_past t.lines k None past in rw none tt
]

entry_inside : (t : TableView) (k : ℕ) → HasItsPlaces t → IfSome (entry_of_line t.lines k) (λ i. i < length t.places)
entry_inside t k h =
    elim (nat_eq k 0) as (λ b. IfSome (if b then None else get_or t.lines (k - 1) None) (λ i. i < length t.places)) [ true ↦ tt | false ↦ entry_at t (k - 1) h ]

pub place_of_line : (t : TableView) (first k : ℕ) (r : Option PlaceNo) → HasItsPlaces t → option_map (λ (p : PlaceNo). p.0) r ≡ option_map (λ i. first + i) (entry_of_line t.lines k) → IfSome r (λ p. (first ≤ p.0) × (p.0 < first + length t.places))
place_of_line t first k r h is = place_inside first (length t.places) (entry_of_line t.lines k) r (entry_inside t k h) is

-- ---- as the code meets them: us is what the vector holds, ts the list that contracts see

pub own_table : (us ts : List TableView) (i m first : ℕ) (t : TableView) (b : Bool) → us ≡ ts → i < length us → t ≡ get_or us i t → AtTable ts (drop i ts) m first → b ≡ nat_eq t.«module» m → b ≡ true → AtOwnTable ts t m first
own_table us ts i m first t b seen below is h test holds =
    table_found ts ts i m first t (rw seen at below) (rw seen at is) h (grind (arith, nat_tests))

pub other_table : (us ts : List TableView) (i m first : ℕ) (t : TableView) (b : Bool) → us ≡ ts → i < length us → t ≡ get_or us i t → AtTable ts (drop i ts) m first → b ≡ nat_eq t.«module» m → b ≡ false → AtTable ts (drop (i + 1) ts) m (first + length t.places)
other_table us ts i m first t b seen below is h test not_it =
    table_next ts ts i m first t (rw seen at below) (rw seen at is) h (λ e. grind (arith, nat_tests))

pub any_table : (us ts : List TableView) (i m first : ℕ) (t : TableView) → us ≡ ts → i < length us → t ≡ get_or us i t → AtTable ts (drop i ts) m first → first + length t.places ≤ length (all_places us)
any_table us ts i m first t seen below is h =
    rw seen (table_room ts ts i m first t (rw seen at below) (rw seen at is) h)

pub no_table : (us ts : List TableView) (i m first : ℕ) → us ≡ ts → length us ≤ i → AtTable ts (drop i ts) m first → AtNoTable ts m first
no_table us ts i m first seen past h = table_end ts ts i m first (rw seen at past) h

split_bounds : (first past : ℕ) (r : Option PlaceNo) → IfSome r (λ p. (first ≤ p.0) × (p.0 < past)) → IfSome r (λ p. first ≤ p.0) × IfSome r (λ p. p.0 < past)
split_bounds first past None h = (tt, tt)
split_bounds first past (Some p) h = h

pub place_bounds : (all : List TableView) (t : TableView) (m first k : ℕ) (r : Option PlaceNo) → AtOwnTable all t m first → HasItsPlaces t → option_map (λ (p : PlaceNo). p.0) r ≡ option_map (λ i. first + i) (entry_of_line t.lines k)
    → IfSome r (λ p. first_place all m ≤ p.0) × IfSome r (λ p. p.0 < first_place all m + place_count all m)
place_bounds all t m first k r own places is =
    let known : IfSome r (λ p. (first ≤ p.0) × (p.0 < first + length t.places)) = place_of_line t first k r places is in
    rw (← own.before, ← own.count) (split_bounds first (first + length t.places) r known)
