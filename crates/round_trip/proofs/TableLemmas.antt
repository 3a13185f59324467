-- Of the tables of listings that match: a place that a module has is of it, and so is the place of each of its lines.
use Rattle.std.proofs.Common.{◌≡◌, inl, inr, ℕ, ◌+◌, ◌-◌, ◌<◌, ◌≤◌, Bool, true, false, if◌then◌else◌, nat_eq, Option, Some, None, option_map, List, [], ◌∷◌, length, get_or, All, refl, sym, ap, ◌∙◌, subst, arith}
use Rattle.std.proofs.lemmas.Bool.{cases_lt, eqb-true}
use Rattle.std.proofs.lemmas.List.{get_or_default, get_or_append_left, get_or-append_right, get_or_past}
use Rattle.std.proofs.lemmas.List.Elements.{All-cons, All-head, All-nil, All-tail}
use Rattle.cov_base.specs.Meaning.{ImageView}
use Rattle.listing_reader.specs.declared.lines.Line.{Line}
use Rattle.listing_reader.specs.declared.lines.Line.TheVariants.{Text}
use Rattle.listing_reader.specs.declared.lines.Line.TheVariants as says
use Rattle.module_area.specs.Meaning.{no_place, place_of}
use Rattle.module_area.specs.declared.places.Place.{Place}
use Rattle.brk_table.specs.Meaning.{TableView, TablesView, all_places, first_place, place_count, entry_of_line, place_at_line, IsEntry, IsTable}
use Rattle.session_book.specs.Meaning.{JobView}
use Rattle.job_input.specs.Meaning.{AreTablesFrom, Match}

-- ---- one table

record IsOwn (t : TableView) : Type 0 where
  inside : (k n : ℕ) → entry_of_line t.lines k ≡ Some n → n < length t.places
  of : (n : ℕ) → n < length t.places → (place_of t.places n).module ≡ t.module

below : (m base : ℕ) (ps : List Place) (line : Line) (e : Option ℕ) (n : ℕ) → IsEntry m base ps line e → e ≡ Some n → n < length ps
below m base ps Text e n a is = let clash : None ≡ Some n = sym a ∙ is in absurd cc
below m base ps (says.Code loc code) None n a is = absurd a
below m base ps (says.Code loc code) (Some k) n a is = let same : k ≡ n = cc in omega (arith, a.0, same)

entry_below : (m base : ℕ) (lines : List Line) (t : TableView) (i n : ℕ) → IsTable m base lines t → get_or t.lines i None ≡ Some n → n < length t.places
entry_below m base lines t i n is e = elim (cases_lt i (length lines)) [
  | inl here ↦ below m base t.places (get_or lines i Text) (get_or t.lines i None) n (is.entries i here) e
  | inr past ↦ (let clash : None ≡ Some n = sym (get_or_past t.lines i None (omega (arith, is.count, past))) ∙ e in absurd cc)
]

line_below : (m base : ℕ) (lines : List Line) (t : TableView) (k n : ℕ) → IsTable m base lines t → entry_of_line t.lines k ≡ Some n → n < length t.places
line_below m base lines t k n is e = by (nat_eq k 0) e
  where
    by : (q : Bool) → (if q then None else get_or t.lines (k - 1) None) ≡ Some n → n < length t.places
    by true h = absurd cc
    by false h = entry_below m base lines t (k - 1) n is h

of_entry : (m base : ℕ) (ps : List Place) (line : Line) (k : ℕ) → IsEntry m base ps line (Some k) → (place_of ps k).module ≡ m
of_entry m base ps Text k a = absurd cc
of_entry m base ps (says.Code loc code) k a = ap (λ (p : Place). p.module) a.1

is_own : (m base : ℕ) (lines : List Line) (t : TableView) → IsTable m base lines t → IsOwn t
is_own m base lines t is = record {
  inside = λ k n e. line_below m base lines t k n is e;
  of = λ n h.
      let c = is.of_lines n h in
      let entry : get_or t.lines c.0 None ≡ Some n = get_or_default t.lines c.0 None (Some n) c.1 ∙ c.2 in
      of_entry m base t.places (get_or lines c.0 Text) n (subst (λ e. IsEntry m base t.places (get_or lines c.0 Text) e) entry (is.entries c.0 (omega (arith, c.1, is.count)))) ∙ sym is.of;
}

-- ---- all of a job's

are_own : (m : ℕ) (images : List ImageView) (listings : List (Option (List (List ℕ)))) (ts : List TableView) → AreTablesFrom m images listings ts → All IsOwn ts
are_own m [] [] [] p = All-nil IsOwn
are_own m [] [] (t ∷ ts) p = absurd p
are_own m [] (l ∷ ls) ts p = absurd p
are_own m (i ∷ is) [] ts p = absurd p
are_own m (i ∷ is) (None ∷ ls) ts p = are_own (m + 1) is ls ts p
are_own m (i ∷ is) (Some texts ∷ ls) [] p = absurd p
are_own m (i ∷ is) (Some texts ∷ ls) (t ∷ ts) p = All-cons IsOwn t ts (is_own m i.base p.0.lines t p.0.table) (are_own (m + 1) is ls ts p.1)

record IsShifted (size : ℕ) (o : Option ℕ) (n : ℕ) : Type 0 where
  from : ℕ
  was : o ≡ Some from
  is : n ≡ size + from

shifted : (size : ℕ) (o : Option ℕ) (n : ℕ) → option_map (λ i. size + i) o ≡ Some n → IsShifted size o n
shifted size None n e = absurd cc
shifted size (Some i) n e = record { from = i; was = refl; is = cc }

abbrev IsInside : List TableView → ℕ → ℕ → Type 0
IsInside ts m n = (first_place ts m ≤ n) × (n < first_place ts m + place_count ts m)

inside : (ts : List TableView) (m k n : ℕ) → All IsOwn ts → place_at_line ts m k ≡ Some n → IsInside ts m n
inside [] m k n own e = absurd cc
inside (t ∷ ts) m k n own e = by (nat_eq t.module m) refl (λ i. inside ts m k i (All-tail IsOwn t ts own))
  where
    by : (q : Bool) → nat_eq t.module m ≡ q → ((i : ℕ) → place_at_line ts m k ≡ Some i → IsInside ts m i) → IsInside (t ∷ ts) m n
    by true same later =
        let below : n < length t.places = (All-head IsOwn t ts own).inside k n (rw same at e) in
        rw same (omega arith, omega (arith, below))
    by false other later =
        let s = shifted (length t.places) (place_at_line ts m k) n (rw other at e) in
        let more = later s.from s.was in
        rw other (omega (arith, more.0, s.is), omega (arith, more.1, s.is))

-- a line's place is one of its module's
pub line_inside : (j : JobView) (tables : TablesView) (m k n : ℕ) → Match j tables → place_at_line tables.tables m k ≡ Some n → (first_place tables.tables m ≤ n) × (n < first_place tables.tables m + place_count tables.tables m)
line_inside j tables m k n match' e = inside tables.tables m k n (are_own 0 j.images j.listings tables.tables match'.tables_of) e

module_from : (ts : List TableView) (m n : ℕ) → All IsOwn ts → first_place ts m ≤ n → n < first_place ts m + place_count ts m → (place_of (all_places ts) n).module ≡ m
module_from [] m n own from to = absurd (omega (arith, from, to))
module_from (t ∷ ts) m n own from to = by (nat_eq t.module m) refl (λ k. module_from ts m k (All-tail IsOwn t ts own))
  where
    by : (q : Bool) → nat_eq t.module m ≡ q → ((k : ℕ) → first_place ts m ≤ k → k < first_place ts m + place_count ts m → (place_of (all_places ts) k).module ≡ m) → (place_of (all_places (t ∷ ts)) n).module ≡ m
    by true same later =
        let here : n < length t.places = omega (arith, rw same at to) in
        ap (λ (q : Place). q.module) (get_or_append_left t.places (all_places ts) no_place n here) ∙ ((All-head IsOwn t ts own).of n here ∙ eqb-true t.module m same)
    by false other later =
        let low = rw other at from in
        let high = rw other at to in
        let k : ℕ = n - length t.places in
        let at : length t.places + k ≡ n = omega (arith, low) in
        ap (λ (q : Place). q.module) (get_or-append_right t.places (all_places ts) (length t.places) n no_place refl (omega (arith, low)))
        ∙ later k (omega (arith, low, at)) (omega (arith, high, at))

-- a place that a module has is of it
pub place_module : (j : JobView) (tables : TablesView) (m n : ℕ) → Match j tables → first_place tables.tables m ≤ n → n < first_place tables.tables m + place_count tables.tables m → (place_of tables.places n).module ≡ m
place_module j tables m n match' from to =
    ap (λ ps. (place_of ps n).module) match'.numbered ∙ module_from tables.tables m n (are_own 0 j.images j.listings tables.tables match'.tables_of) from to
