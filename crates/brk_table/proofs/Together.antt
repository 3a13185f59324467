-- All places of several tables: apart, and in their modules.
use Rattle.std.proofs.Common.{◌≡◌, inl, inr, ℕ, ◌-◌, ◌<◌, suc, List, [], ◌∷◌, ◌++◌, length, get_or, refl, ap, ◌∙◌, arith, All, length-append}
use Rattle.std.specs.Prelude.{AllPairs}
use Rattle.std.proofs.lemmas.Bool.{cases_lt}
use Rattle.std.proofs.lemmas.List.{get_or_default, get_or_append_left, get_or-append_right}
use Rattle.std.proofs.lemmas.List.Elements.{All-append, All-tail}
use Rattle.cov_base.specs.Meaning.{ImageView}
use Rattle.module_area.specs.Images.{AreClear, AreImages}
use Rattle.module_area.specs.declared.places.Place.{Place}
use Rattle.brk_table.specs.Meaning.{TableView, all_places}
use Rattle.brk_table.specs.Places.{IsPlace, IsIn, AreApart, ArePlaces, HasItsPlaces, HasRisingPlaces}
use Rattle.brk_table.specs.Together.{IsTableOf, AreTables}

tail_pairs : {X : Type 0} (R : X → X → Type 0) (x : X) (xs : List X) → AllPairs R (x ∷ xs) → AllPairs R xs
tail_pairs R x xs h j k d l b = h (suc j) (suc k) d (omega arith) (omega arith)

first_pairs : {X : Type 0} (R : X → X → Type 0) (x : X) (xs : List X) → AllPairs R (x ∷ xs) → All (R x) xs
first_pairs R x xs h k d l = h 0 (suc k) d (omega arith) (omega arith)

pairs_append : {X : Type 0} (R : X → X → Type 0) (xs ys : List X) → AllPairs R xs → AllPairs R ys → ((j k : ℕ) (d : X) → j < length xs → k < length ys → R (get_or xs j d) (get_or ys k d)) → AllPairs R (xs ++ ys)
pairs_append R xs ys a b across j k d l h = elim (cases_lt k (length xs)) [
  | inl left ↦ rw (get_or_append_left xs ys d k left, get_or_append_left xs ys d j (omega arith)) (a j k d l left)
  | inr right ↦ elim (cases_lt j (length xs)) [
    | inl before ↦ rw (get_or-append_right xs ys (length xs) k d refl right, get_or_append_left xs ys d j before) (across j (k - length xs) d before (omega (arith, length-append xs ys)))
    | inr past ↦ rw (get_or-append_right xs ys (length xs) k d refl right, get_or-append_right xs ys (length xs) j d refl past) (b (j - length xs) (k - length xs) d (omega arith) (omega (arith, length-append xs ys)))
  ]
]

in_of : (images : List ImageView) (t : TableView) → IsTableOf images t → All (IsIn images) t.places
in_of images t is k d l =
    let own = is.own.own k d l in
    record {
      image = is.image;
      exists = rw own.of is.exists;
      is = ap (λ m. get_or images m is.image) own.of ∙ is.is;
      from = own.from;
      to = own.to;
      original = own.original;
    }

pub all_in : (images : List ImageView) (tables : List TableView) → All (IsTableOf images) tables → All (IsIn images) (all_places tables)
all_in images [] h = λ k d l. absurd (omega arith)
all_in images (t ∷ ts) h = All-append (IsIn images) t.places (all_places ts) (in_of images t (h 0 t (omega arith))) (all_in images ts (All-tail (IsTableOf images) t ts h))

each_of : (images : List ImageView) (tables : List TableView) → All (IsTableOf images) tables → All IsPlace (all_places tables)
each_of images [] h = λ k d l. absurd (omega arith)
each_of images (t ∷ ts) h = All-append IsPlace t.places (all_places ts) (h 0 t (omega arith)).own.each (each_of images ts (All-tail (IsTableOf images) t ts h))

later_modules : (images : List ImageView) (m : ℕ) (tables : List TableView) → All (IsTableOf images) tables → All (λ (u : TableView). m < u.«module») tables → All (λ (q : Place). m < q.«module») (all_places tables)
later_modules images m [] h r = λ k d l. absurd (omega arith)
later_modules images m (t ∷ ts) h r =
    let own = h 0 t (omega arith) in
    let less : m < t.«module» = r 0 t (omega arith) in
    All-append (λ (q : Place). m < q.«module») t.places (all_places ts) (λ k d l. rw (own.own.own k d l).of less) (later_modules images m ts (All-tail (IsTableOf images) t ts h) (All-tail (λ (u : TableView). m < u.«module») t ts r))

clear_apart : (images : List ImageView) (p q : Place) → AllPairs AreClear images → IsIn images p → IsIn images q → p.«module» < q.«module» → AreApart p q
clear_apart images p q clear a b less =
    let second : get_or images q.«module» a.image ≡ b.image = get_or_default images q.«module» a.image b.image b.exists ∙ b.is in
    let c : AreClear a.image b.image = rw (← a.is, ← second) (clear p.«module» q.«module» a.image less b.exists) in
    by_case c
  where
    by_case : AreClear a.image b.image → AreApart p q
    by_case (inl h) = inl (omega (arith, a.to, b.from))
    by_case (inr h) = inr (omega (arith, a.from, b.to))

apart_all : (images : List ImageView) (tables : List TableView) → AllPairs AreClear images → All (IsTableOf images) tables → AllPairs (λ (t u : TableView). t.«module» < u.«module») tables → AllPairs AreApart (all_places tables)
apart_all images [] clear h r = λ j k d l b. absurd (omega arith)
apart_all images (t ∷ ts) clear h r =
    let own = h 0 t (omega arith) in
    let rest = All-tail (IsTableOf images) t ts h in
    let later = later_modules images t.«module» ts rest (first_pairs (λ (t u : TableView). t.«module» < u.«module») t ts r) in
    pairs_append AreApart t.places (all_places ts) own.own.apart (apart_all images ts clear rest (tail_pairs (λ (t u : TableView). t.«module» < u.«module») t ts r))
    (λ j k d l b. (let less = later k d b in
    clear_apart images (get_or t.places j d) (get_or (all_places ts) k d) clear (in_of images t own j d l) (all_in images ts rest k d b) (rw (own.own.own j d l).of less)))

-- what the tables of clear modules meet
pub record AllMet (images : List ImageView) (tables : List TableView) : Type 0 where
  pub places : ArePlaces (all_places tables)
  pub in_images : All (IsIn images) (all_places tables)
  pub lines : All HasItsPlaces tables
  pub rising : All HasRisingPlaces tables

pub all_met : (images : List ImageView) (tables : List TableView) → AreImages images → AreTables images tables → AllMet images tables
all_met images tables are t = record {
  places = record { each = each_of images tables t.of; apart = apart_all images tables are.apart t.of t.rising; most = t.most };
  in_images = all_in images tables t.of;
  lines = λ k d l. (t.of k d l).own.lines;
  rising = λ k d l. (t.of k d l).own.rising;
}
