-- The modules of a session, with their places, keep the rules of a marks file.
use Rattle.std.proofs.Common.{◌≡◌, ◌≢◌, inl, inr, ℕ, ◌+◌, ◌-◌, ◌%◌, ◌<◌, ◌≤◌, true, false, ◌||◌, ◌==◌, not, nat_le, List, [], ◌∷◌, ◌++◌, length, map, get_or, take, All, refl, sym, ap, ◌∙◌, subst, arith, eqb-true}
use Rattle.std.proofs.lemmas.List.Folds.{Any-from_list_any}
use Rattle.std.specs.List.{list_any, list_all}
use Rattle.std.specs.Str.{bytes_eq}
use Rattle.std.proofs.lemmas.Bool.{cases_lt, le-leb, eq-eqb, or_right, or_left, and_from, false_from_ne_true}
use Rattle.std.proofs.lemmas.Bool.Decides.{Decides-eqb}
use Rattle.std.proofs.lemmas.List.{get_or_default, get_or-map, map-append, map_more, length-map}
use Rattle.std.proofs.lemmas.List.Elements.{All-tail, All-cons, All-push, All-nil}
use Rattle.std.proofs.lemmas.List.Quantifiers.{all_pairs_push}
use Rattle.std.proofs.lemmas.Map.Made.{IsDistinct-from_AllPairs}
use Rattle.std.proofs.lemmas.Map.Steps.{length-le_from_distinct_below}
use Rattle.std.proofs.lemmas.Slice.Eq.{bytes_eq-Decides}
use Rattle.cov_base.specs.Lists.{Differ}
use Rattle.cov_base.specs.Meaning.{FactSet, ImageView, is_filled}
use Rattle.cov_base.proofs.Laws.{length_of-least}
use Rattle.module_area.specs.Images.{IsImage, AreClear}
use Rattle.module_area.specs.Meaning.{place_of, no_place}
use Rattle.module_area.specs.declared.places.Place.{Place}
use Rattle.brk_table.specs.Meaning.{TablesView, all_places, first_place, place_count as count_in}
use Rattle.brk_table.specs.Places.{IsPlace, AreApart}
use Rattle.brk_table.specs.Together.{AreTables}
use Rattle.marks_file.specs.Meaning.{MarkedView, is_new_name, is_base, is_clear, is_size, is_count, place_total, are_modules, is_module_count, are_marks, are_places}
use Rattle.marks_file.specs.declared.marks.MarkedPlace.{MarkedPlace}
use Rattle.marks_file.proofs.Laws.{is_module}
use Rattle.session_book.specs.Meaning.{JobView, module_of, no_module}
use Rattle.session_book.specs.JobView.{IsJob}
use Rattle.phase_plan.specs.Sets.{AreWithin}
use Rattle.session_marks.specs.Fields.{HasGoodFields, AreHalfwords}
use Rattle.session_marks.specs.Meaning.{marked_places, marked_module}
use Rattle.session_marks.proofs.TableLemmas.{OwnTable, own_table, count_of, counts_fit, count_more, first_differs, rest_differs}
use Rattle.session_marks.proofs.RuleLemmas.{AreMarkable, places_kept, length-marked_places}

-- a job and the tables of its modules
pub record AreTabled (j : JobView) (tables : TablesView) : Type 0 where
  pub job : IsJob j
  pub are : AreTables j.images tables.tables
  pub places : tables.places ≡ all_places tables.tables

-- ---- the places of a module lie in it, one behind the other

same_image : (images : List ImageView) (m t : ℕ) (image : ImageView) → t ≡ m → t < length images → get_or images t image ≡ image → get_or images m no_module ≡ image
same_image images m t image of l is = ap (λ k. get_or images k no_module) (sym of) ∙ (get_or_default images t no_module image l ∙ is)

place_in : (j : JobView) (tables : TablesView) (m n : ℕ) → tables.places ≡ all_places tables.tables → (o : OwnTable j.images tables.tables m) → first_place tables.tables m ≤ n → n < first_place tables.tables m + count_in tables.tables m → place_of tables.places n ≡ place_of o.table.places (n - first_place tables.tables m)
place_in j tables m n all o from to =
    let first = first_place tables.tables m in
    let count = o.count in
    let at : first + (n - first) ≡ n = omega arith in
    ap (λ ps. place_of ps n) all ∙ (ap (place_of (all_places tables.tables)) (sym at) ∙ o.place (n - first) (omega arith))

own_markable : (j : JobView) (tables : TablesView) (sets : ℕ → FactSet) (m : ℕ) → AreTabled j tables → AreWithin tables sets m → OwnTable j.images tables.tables m → AreMarkable (module_of j m) tables.places sets (first_place tables.tables m) (count_in tables.tables m)
own_markable j tables sets m are within o =
    let first = first_place tables.tables m in
    let count = o.count in
    let image : module_of j m ≡ o.is.image = same_image j.images m o.table.«module» o.is.image o.of o.is.exists o.is.is in
    record {
      each = λ n from to. (let k = n - first in
          let l : k < length o.table.places = omega arith in
          let at = place_in j tables m n are.places o from to in
          let is = o.is.own.each k no_place l in
          let own = o.is.own.own k no_place l in
          record {
            is = subst IsPlace (sym at) is;
            from = rw (image, at) own.from;
            to = rw (image, at) own.to;
            within = within n from to;
          });
      rise = λ n from to. (let k = n - first in
          let l : k < length o.table.places = omega arith in
          let next : n + 1 - first ≡ k + 1 = omega arith in
          let here = place_in j tables m n are.places o from (omega arith) in
          let there : place_of tables.places (n + 1) ≡ place_of o.table.places (k + 1) = place_in j tables m (n + 1) are.places o (omega arith) to ∙ ap (place_of o.table.places) next in
          rw (here, there) (one_behind o.table.places k (o.is.own.each k no_place l) (o.is.own.each (k + 1) no_place (omega arith)) (o.is.own.rising k (k + 1) no_place (omega arith) (omega arith)) (o.is.own.apart k (k + 1) no_place (omega arith) (omega arith))));
    }
  where
    one_behind : (places : List Place) (k : ℕ) → IsPlace (place_of places k) → IsPlace (place_of places (k + 1)) → (place_of places k).at < (place_of places (k + 1)).at → AreApart (place_of places k) (place_of places (k + 1))
        → (place_of places k).at + (place_of places k).len ≤ (place_of places (k + 1)).at
    one_behind places k p q rise apart =
        let size = q.size in
        let long = length_of-least (place_of places (k + 1)).original in
        elim apart [ inl before ↦ before | inr after ↦ absurd (omega arith) ]

markable : (j : JobView) (tables : TablesView) (sets : ℕ → FactSet) (m : ℕ) → AreTabled j tables → AreWithin tables sets m → AreMarkable (module_of j m) tables.places sets (first_place tables.tables m) (count_in tables.tables m)
markable j tables sets m are within = elim (own_table j.images tables.tables m are.are.of) [
  | inl none ↦ record { each = λ n l h. absurd (omega arith); rise = λ n l h. absurd (omega arith) }
  | inr o ↦ own_markable j tables sets m are within o
]

-- a place of the module begins at its base or past it
pub from_base : (j : JobView) (tables : TablesView) (m : ℕ) → AreTables j.images tables.tables → tables.places ≡ all_places tables.tables → (n : ℕ) → first_place tables.tables m ≤ n → n < first_place tables.tables m + count_in tables.tables m → (module_of j m).base ≤ (place_of tables.places n).at
from_base j tables m are all n from to = elim (own_table j.images tables.tables m are.of) [
  | inl none ↦ absurd (omega arith)
  | inr o ↦ (let count = o.count in
      let image = same_image j.images m o.table.«module» o.is.image o.of o.is.exists o.is.is in
      let own = o.is.own.own (n - first_place tables.tables m) no_place (omega arith) in
      rw (image, place_in j tables m n all o from to) own.from)
]

-- a module's places keep their rules
pub own_places_kept : (j : JobView) (tables : TablesView) (sets : ℕ → FactSet) (m : ℕ) → AreTabled j tables → m < length j.images → AreWithin tables sets m → AreHalfwords (marked_module j tables sets m).places
    → are_places (length (module_of j m).bytes) 0 (marked_module j tables sets m).places ≡ true
own_places_kept j tables sets m are l within halves =
    places_kept (module_of j m) tables.places sets (first_place tables.tables m) (count_in tables.tables m) (are.job.images.each m no_module l) (markable j tables sets m are within) halves

-- ---- the modules of a session differ

-- one of the job's modules, which keeps the rules that look at no other
pub record IsMarked (j : JobView) (tables : TablesView) (sets : ℕ → FactSet) (m : ℕ) : Type 0 where
  pub exists : m < length j.images
  pub fields : HasGoodFields (marked_module j tables sets m)

module_is : (j : JobView) (m : ℕ) → IsJob j → m < length j.images → IsImage (module_of j m)
module_is j m is l = is.images.each m no_module l

other_names : (j : JobView) (m n : ℕ) → IsJob j → m < n → n < length j.images → (module_of j m).name ≢ (module_of j n).name
other_names j m n is l h same =
    let name = λ (i : ImageView). i.name in
    let first = get_or-map name j.images m no_module [] (omega arith) in
    let second = get_or-map name j.images n no_module [] h in
    let same_length = length-map j.images name in
    let long : n < length (map name j.images) = omega arith in
    is.module_names m n [] l long (first ∙ (same ∙ sym second))

names_differ : (j : JobView) (m n : ℕ) → IsJob j → m ≢ n → m < length j.images → n < length j.images → (module_of j m).name ≢ (module_of j n).name
names_differ j m n is differ a b same = elim (cases_lt m n) [
  | inl less ↦ other_names j m n is less b same
  | inr more ↦ other_names j n m is (grind arith) a (sym same)
]

clear_of : (j : JobView) (m n : ℕ) → IsJob j → m ≢ n → m < length j.images → n < length j.images
    → (nat_le ((module_of j m).base + length (module_of j m).bytes) (module_of j n).base || nat_le ((module_of j n).base + length (module_of j n).bytes) (module_of j m).base) ≡ true
clear_of j m n is differ a b = elim (cases_lt m n) [
  | inl less ↦ by (module_of j m) (module_of j n) (is.images.apart m n no_module less b)
  | inr more ↦ turned (module_of j m) (module_of j n) (is.images.apart n m no_module (grind arith) a)
]
  where
    by : (x y : ImageView) → AreClear x y → (nat_le (x.base + length x.bytes) y.base || nat_le (y.base + length y.bytes) x.base) ≡ true
    by x y (inl h) = or_left _ _ (le-leb (x.base + length x.bytes) y.base h)
    by x y (inr h) = or_right _ _ (le-leb (y.base + length y.bytes) x.base h)

    turned : (x y : ImageView) → AreClear y x → (nat_le (x.base + length x.bytes) y.base || nat_le (y.base + length y.bytes) x.base) ≡ true
    turned x y (inl h) = or_right _ _ (le-leb (y.base + length y.bytes) x.base h)
    turned x y (inr h) = or_left _ _ (le-leb (x.base + length x.bytes) y.base h)

no_earlier : (j : JobView) (tables : TablesView) (sets : ℕ → FactSet) (m : ℕ) (es : List ℕ) → IsJob j → m < length j.images → All (IsMarked j tables sets) es → All (λ e. e ≢ m) es
    → list_any (λ (v : MarkedView). bytes_eq v.name (module_of j m).name) (map (marked_module j tables sets) es) ≡ false
no_earlier j tables sets m [] is l are differ = refl
no_earlier j tables sets m (e ∷ es) is l are differ =
    let one = false_from_ne_true (bytes_eq (module_of j e).name (module_of j m).name) (λ s. names_differ j e m is (differ 0 e (omega arith)) (are 0 e (omega arith)).exists l ((bytes_eq-Decides (module_of j e).name (module_of j m).name).0 s)) in
    rw one (no_earlier j tables sets m es is l (All-tail (IsMarked j tables sets) e es are) (All-tail (λ e. e ≢ m) e es differ))

all_clear : (j : JobView) (tables : TablesView) (sets : ℕ → FactSet) (m : ℕ) (es : List ℕ) → IsJob j → m < length j.images → All (IsMarked j tables sets) es → All (λ e. e ≢ m) es
    → list_all (is_clear (module_of j m).base (length (module_of j m).bytes)) (map (marked_module j tables sets) es) ≡ true
all_clear j tables sets m [] is l are differ = refl
all_clear j tables sets m (e ∷ es) is l are differ =
    and_from _ _ (clear_of j e m is (differ 0 e (omega arith)) (are 0 e (omega arith)).exists l) (all_clear j tables sets m es is l (All-tail (IsMarked j tables sets) e es are) (All-tail (λ e. e ≢ m) e es differ))

counted : (j : JobView) (tables : TablesView) (sets : ℕ → FactSet) (ms : List ℕ) → place_total (map (marked_module j tables sets) ms) ≡ count_of tables.tables ms
counted j tables sets [] = refl
counted j tables sets (m ∷ ms) =
    let one = length-marked_places (module_of j m).base tables.places sets (first_place tables.tables m) (count_in tables.tables m) in
    let rest = counted j tables sets ms in
    omega (arith, one, rest)

-- ---- each keeps its rules behind those before it

name_kept : (j : JobView) (tables : TablesView) (sets : ℕ → FactSet) (m : ℕ) (es : List ℕ) → IsJob j → IsMarked j tables sets m → All (IsMarked j tables sets) es → All (λ e. e ≢ m) es → is_new_name (map (marked_module j tables sets) es) (module_of j m).name ≡ true
unfolding is_new_name
name_kept j tables sets m es is one are differ = and_from _ _ one.fields.name (ap not (no_earlier j tables sets m es is one.exists are differ))

base_kept : (i : ImageView) → IsImage i → is_base i.base ≡ true
unfolding is_base
base_kept i is =
    let to = is.to in
    let some = is.some in
    and_from _ _ (eq-eqb _ 0 is.doubleword) (and_from _ _ (le-leb 1048576 i.base is.from) (le-leb i.base 16773112 (last_base i.base (length i.bytes) is.doubleword some to)))
  where
    last_base : (base size : ℕ) → base % 8 ≡ 0 → 2 ≤ size → base + size ≤ 16773120 → base ≤ 16773112
    last_base base size a b c = omega arith

size_kept : (j : JobView) (tables : TablesView) (sets : ℕ → FactSet) (m : ℕ) (es : List ℕ) → IsJob j → IsMarked j tables sets m → All (IsMarked j tables sets) es → All (λ e. e ≢ m) es
    → is_size (map (marked_module j tables sets) es) (module_of j m).base (length (module_of j m).bytes) ≡ true
unfolding is_size
size_kept j tables sets m es is one are differ =
    let i = module_is j m is one.exists in
    let few = is.sizes m no_module one.exists in
    let size = length (module_of j m).bytes in
    and_from _ _ (eq-eqb _ 0 i.even) (and_from _ _ (le-leb 2 size i.some) (and_from _ _ (le-leb size 262144 few) (and_from _ _ (le-leb _ _ i.to) (all_clear j tables sets m es is one.exists are differ))))

count_kept : (j : JobView) (tables : TablesView) (sets : ℕ → FactSet) (m : ℕ) (es : List ℕ) → AreTables j.images tables.tables → Differ (es ++ m ∷ []) → is_count (map (marked_module j tables sets) es) (length (marked_module j tables sets m).places) ≡ true
unfolding is_count
count_kept j tables sets m es are differ =
    let one = length-marked_places (module_of j m).base tables.places sets (first_place tables.tables m) (count_in tables.tables m) in
    let before = counted j tables sets es in
    let more = count_more tables.tables es m in
    let fit = counts_fit tables.tables (es ++ m ∷ []) differ in
    let most = are.most in
    le-leb (place_total (map (marked_module j tables sets) es) + length (marked_module j tables sets m).places) 65536 (omega (arith, one, before, more, fit, most))

module_kept : (j : JobView) (tables : TablesView) (sets : ℕ → FactSet) (m : ℕ) (es : List ℕ) → IsJob j → AreTables j.images tables.tables → IsMarked j tables sets m → All (IsMarked j tables sets) es → All (λ e. e ≢ m) es → Differ (es ++ m ∷ [])
    → is_module (map (marked_module j tables sets) es) (marked_module j tables sets m) ≡ true
module_kept j tables sets m es is are one earlier other differ =
    let i = module_is j m is one.exists in
    and_from _ _ (name_kept j tables sets m es is one earlier other)
    (and_from _ _ (base_kept (module_of j m) i)
    (and_from _ _ (size_kept j tables sets m es is one earlier other)
    (and_from _ _ (count_kept j tables sets m es are differ) one.fields.places)))

differ_more : (m : ℕ) (es : List ℕ) → Differ es → All (λ e. e ≢ m) es → Differ (es ++ m ∷ [])
differ_more m es differ other = all_pairs_push (λ a b. a ≢ b) es m differ other

modules_from : (j : JobView) (tables : TablesView) (sets : ℕ → FactSet) (es ms : List ℕ) → IsJob j → AreTables j.images tables.tables → All (IsMarked j tables sets) es → All (IsMarked j tables sets) ms → Differ es → Differ ms → All (λ m. All (λ e. e ≢ m) es) ms
    → are_modules (map (marked_module j tables sets) es) (map (marked_module j tables sets) ms) ≡ true
modules_from j tables sets es [] is are earlier later differ apart other = refl
modules_from j tables sets es (m ∷ ms) is are earlier later differ apart other =
    let f = marked_module j tables sets in
    let here = later 0 m (omega arith) in
    let mine = other 0 m (omega arith) in
    let more = differ_more m es differ mine in
    let rest = All-tail (IsMarked j tables sets) m ms later in
    let others : All (λ n. All (λ e. e ≢ n) (es ++ m ∷ [])) ms = λ k d l. All-push (λ e. e ≢ get_or ms k d) es m (All-tail (λ n. All (λ e. e ≢ n) es) m ms other k d l) (first_differs m ms apart k d l) in
    let next = modules_from j tables sets (es ++ m ∷ []) ms is are (All-push (IsMarked j tables sets) es m earlier here) rest more (rest_differs m ms apart) others in
    and_from _ _ (module_kept j tables sets m es is are here earlier mine more) (subst (λ x. are_modules x (map f ms) ≡ true) (map-append f es (m ∷ [])) next)

any_below : (n q : ℕ) (ms : List ℕ) → All (λ m. m < n) ms → list_any (λ x. q == x) ms ≡ true → q < n
any_below n q ms h e = let a = Any-from_list_any (λ x. q == x) ms e in omega (arith, h a.0 a.1 a.2, a.3, eqb-true q a.1 a.4)

-- different numbers below n are at most n
few : (n : ℕ) (ms : List ℕ) → All (λ m. m < n) ms → Differ ms → length ms ≤ n
few n ms h differ = length-le_from_distinct_below ms n (IsDistinct-from_AllPairs Decides-eqb ms differ) (λ q e. any_below n q ms h e)

all_mapped : {X Y : Type 0} (P : Y → Type 0) (f : X → Y) (xs : List X) → All P (map f xs) → All (λ x. P (f x)) xs
all_mapped P f [] h = All-nil (λ x. P (f x))
all_mapped P f (x ∷ xs) h = All-cons (λ x. P (f x)) x xs (h 0 (f x) (omega arith)) (all_mapped P f xs (All-tail P (f x) (map f xs) h))

are_marked : (j : JobView) (tables : TablesView) (sets : ℕ → FactSet) (ms : List ℕ) → All (λ m. m < length j.images) ms → All HasGoodFields (map (marked_module j tables sets) ms) → All (IsMarked j tables sets) ms
are_marked j tables sets ms exist fields k d l = record {
  exists = exist k d l;
  fields = all_mapped HasGoodFields (marked_module j tables sets) ms fields k d l;
}

-- different modules of a job make a marks file
pub marks_kept : (j : JobView) (tables : TablesView) (sets : ℕ → FactSet) (ms : List ℕ) → IsJob j → AreTables j.images tables.tables → 1 ≤ length ms → All (λ m. m < length j.images) ms → Differ ms → All HasGoodFields (map (marked_module j tables sets) ms)
    → are_marks (map (marked_module j tables sets) ms) ≡ true
unfolding is_module_count
marks_kept j tables sets ms is are some exist differ fields =
    let long = length-map ms (marked_module j tables sets) in
    let many = few (length j.images) ms exist differ in
    let most = is.modules in
    let size = length (map (marked_module j tables sets) ms) in
    and_from _ _ (and_from _ _ (le-leb 1 size (omega (arith, long, some))) (le-leb size 16 (omega (arith, long, many, most))))
    (modules_from j tables sets [] ms is are (All-nil (IsMarked j tables sets)) (are_marked j tables sets ms exist fields) (λ a b d l h. absurd (omega arith)) differ (λ k d l. All-nil (λ e. e ≢ get_or ms k d)))

-- what was made of a module with these fields
pub module_fields : (j : JobView) (tables : TablesView) (sets : ℕ → FactSet) (m base size first past : ℕ) (image : ImageView) (name : List ℕ) (places : List MarkedPlace)
    → AreTabled j tables → m < length j.images → AreWithin tables sets m → image ≡ module_of j m → base ≡ image.base → size ≡ length image.bytes → first ≡ first_place tables.tables m → past ≡ first_place tables.tables m + count_in tables.tables m
    → places ≡ marked_places base tables.places sets first (past - first) → AreHalfwords places → is_filled name ≡ true → HasGoodFields (record { name = name; base = base; size = size; places = places })
module_fields j tables sets m base size first past image name places are l within same eb es ef ep made halves filled =
    let count : past - first ≡ count_in tables.tables m = omega arith in
    let at : base ≡ (module_of j m).base = eb ∙ ap (λ (i : ImageView). i.base) same in
    let long : size ≡ length (module_of j m).bytes = es ∙ ap (λ (i : ImageView). length i.bytes) same in
    let own : places ≡ (marked_module j tables sets m).places = made ∙ (ap (λ b. marked_places b tables.places sets first (past - first)) at ∙ (ap (λ k. marked_places (module_of j m).base tables.places sets k (past - first)) ef ∙ ap (marked_places (module_of j m).base tables.places sets (first_place tables.tables m)) count)) in
    record {
      name = filled;
      places = rw (long, own) (own_places_kept j tables sets m are l within (subst AreHalfwords own halves));
    }

-- one more module
pub mapped_step : {X Y : Type 0} (f : X → Y) (xs : List X) (i : ℕ) (d : X) (was now : List Y) (y : Y) → i < length xs → was ≡ map f (take i xs) → now ≡ was ++ y ∷ [] → y ≡ f (get_or xs i d) → now ≡ map f (take (i + 1) xs)
mapped_step f xs i d was now y h before push is =
    push ∙ (ap (λ ys. ys ++ y ∷ []) before ∙ (ap (λ z. map f (take i xs) ++ z ∷ []) is ∙ sym (map_more f xs i d h)))
