-- The places of the instructions, location by location.
use Rattle.std.proofs.Common.{◌≡◌, ◌≢◌, inl, inr, ℕ, ◌+◌, ◌<◌, ◌≤◌, suc, Bool, true, cond, Option, Some, None, is_some, List, [], ◌∷◌, ◌++◌, length, get_or, set, refl, sym, ap, ◌∙◌, arith}
use Rattle.std.specs.Prelude.{count_by, Contains, AllPairs}
use Rattle.std.specs.List.{AllPass}
use Rattle.std.proofs.lemmas.Bool.{cases_lt, cases_eq, leb-true}
use Rattle.std.proofs.lemmas.List.{get_or_append_left, get_or_push, get_or_default, length_push, length-set, get_or-set_same, get_or-set_other}
use Rattle.std.proofs.lemmas.List.Sums.{sum_by-set, sum_by-cons}
use Rattle.std.proofs.lemmas.Option.{none-some}
use Rattle.s370_decode.specs.declared.code.Code.{Code}
use Rattle.module_area.specs.Meaning.{no_place, place_of}
use Rattle.module_area.specs.declared.places.Place.{Place}
use Rattle.listing_reader.specs.Listing.{is_sound}
use Rattle.listing_reader.specs.declared.lines.Line.{Line}
use Rattle.listing_reader.specs.declared.lines.Line.TheVariants.{Text}
use Rattle.listing_reader.specs.declared.lines.Line.TheVariants as says
use Rattle.brk_table.specs.Meaning.{is_code, place_from, IsEntry, IsTable}
use Rattle.brk_table.specs.Cover.{covers, is_inside, IsCover, IsEntryBelow, IsTabled, OnlyAt}
use Rattle.brk_table.proofs.FaultLemmas.{sound_length, covers_code}

-- no line begins at a location
abbrev pub NoneAt : List Line → ℕ → Type 0
NoneAt lines at = (j loc : ℕ) (code : Code) → j < length lines → get_or lines j Text ≡ says.Code loc code → loc ≡ at → ⊥

found : (lines : List Line) (cover : List (Option ℕ)) (at j loc : ℕ) (code : Code) → IsCover lines cover → AllPass is_sound lines → at < length cover → j < length lines → get_or lines j Text ≡ says.Code loc code → loc ≡ at → get_or cover at None ≡ Some j
found lines cover at j loc code is sound l b e q =
    let own : is_sound (says.Code loc code) ≡ true = ap is_sound (sym e) ∙ sound j Text b in
    let long = sound_length loc code own in
    is.has_line at j l b (ap (covers at) e ∙ covers_code at loc code (omega arith) (omega arith))

pub only_at : (lines : List Line) (cover : List (Option ℕ)) (at i : ℕ) → IsCover lines cover → AllPass is_sound lines → at < length cover → get_or cover at None ≡ Some i → OnlyAt lines at i
only_at lines cover at i is sound l e j loc code b q s =
    let f = found lines cover at j loc code is sound l b q s in
    cc

pub none_at : (lines : List Line) (cover : List (Option ℕ)) (at : ℕ) → IsCover lines cover → AllPass is_sound lines → at < length cover → get_or cover at None ≡ None → NoneAt lines at
none_at lines cover at is sound l e j loc code b q s =
    let f = found lines cover at j loc code is sound l b q s in
    absurd cc

entry_on : (m base at : ℕ) (places : List Place) (line : Line) (entry : Option ℕ) → IsEntryBelow m base at places line entry → ((loc : ℕ) (code : Code) → line ≡ says.Code loc code → loc ≡ at → ⊥) → IsEntryBelow m base (at + 1) places line entry
entry_on m base at places Text entry h none = h
entry_on m base at places (says.Code loc code) entry h none = (λ l. h.0 (let n = none loc code refl in omega arith), λ l. h.1 (omega arith))

pub tabled_none : (m base : ℕ) (lines : List Line) (at : ℕ) (places : List Place) (entries : List (Option ℕ)) → IsTabled m base lines at places entries → NoneAt lines at → IsTabled m base lines (at + 1) places entries
tabled_none m base lines at places entries t none = record {
  count = t.count;
  entered = λ i l. entry_on m base at places (get_or lines i Text) (get_or entries i None) (t.entered i l) (λ loc code e q. none i loc code l e q);
  of_lines = t.of_lines;
  low = λ k l. omega (arith, t.low k l);
  rising = t.rising;
  few = omega (arith, t.few);
  filled = t.filled;
}

wider : (m base : ℕ) (places : List Place) (p : Place) (line : Line) (entry : Option ℕ) → IsEntry m base places line entry → IsEntry m base (places ++ p ∷ []) line entry
wider m base places p Text entry h = h
wider m base places p (says.Code loc code) None h = h
wider m base places p (says.Code loc code) (Some k) h =
    (omega (arith, h.0, length_push places p), get_or_append_left places (p ∷ []) no_place k h.0 ∙ h.1)

entry_wider : (m base at : ℕ) (places : List Place) (p : Place) (line : Line) (entry : Option ℕ) → IsEntryBelow m base at places line entry → IsEntryBelow m base at (places ++ p ∷ []) line entry
entry_wider m base at places p Text entry h = h
entry_wider m base at places p (says.Code loc code) entry h = (λ l. wider m base places p (says.Code loc code) entry (h.0 l), h.1)

entry_own : (m base at : ℕ) (places : List Place) (line : Line) (entry : Option ℕ) (code : Code) → line ≡ says.Code at code → entry ≡ Some (length places) → IsEntryBelow m base (at + 1) (places ++ place_from m base at code ∷ []) line entry
entry_own m base at places line entry code e q =
    rw (e, q) (λ l. (omega (arith, length_push places (place_from m base at code)), get_or_push places (place_from m base at code) no_place (length places) refl), λ l. absurd (omega arith))

was_none : (m base at : ℕ) (places : List Place) (line : Line) (entry : Option ℕ) (code : Code) → line ≡ says.Code at code → IsEntryBelow m base at places line entry → entry ≡ None
was_none m base at places Text entry code e h = absurd cc
was_none m base at places (says.Code loc d) entry code e h = let q : loc ≡ at = cc in h.1 (omega arith)

count_set : (entries : List (Option ℕ)) (i k : ℕ) → i < length entries → get_or entries i None ≡ None → count_by is_some (set entries i (Some k)) ≡ count_by is_some entries + 1
count_set entries i k l e =
    let s = sum_by-set (λ (x : Option ℕ). cond (is_some x) 1 0) entries i (Some k) None l in
    let one : Option ℕ → ℕ = λ x. cond (is_some x) 1 0 in
    let z : one (get_or entries i None) ≡ 0 = ap one e in
    omega (arith, s, z)

pub tabled_more : (m base : ℕ) (lines : List Line) (at : ℕ) (places : List Place) (entries : List (Option ℕ)) (i : ℕ) (code : Code) → IsTabled m base lines at places entries → i < length lines → get_or lines i Text ≡ says.Code at code → OnlyAt lines at i
    → IsTabled m base lines (at + 1) (places ++ place_from m base at code ∷ []) (set entries i (Some (length places)))
tabled_more m base lines at places entries i code t l own only = record {
  count = length-set entries i (Some (length places)) ∙ t.count;
  entered = entered;
  of_lines = of_lines;
  low = low;
  rising = rising;
  few = omega (arith, t.few, grown);
  filled = count_set entries i (length places) there none ∙ (ap (λ x. x + 1) t.filled ∙ sym grown);
}
  where
    p : Place
    p = place_from m base at code

    grown : length (places ++ place_from m base at code ∷ []) ≡ length places + 1
    grown = length_push places (place_from m base at code)

    there : i < length entries
    there = omega (arith, t.count, l)

    none : get_or entries i None ≡ None
    none = was_none m base at places (get_or lines i Text) (get_or entries i None) code own (t.entered i l)

    entered : (j : ℕ) → j < length lines → IsEntryBelow m base (at + 1) (places ++ place_from m base at code ∷ []) (get_or lines j Text) (get_or (set entries i (Some (length places))) j None)
    entered j b = elim (cases_eq j i) [
      | inl e ↦ rw e (entry_own m base at places (get_or lines i Text) (get_or (set entries i (Some (length places))) i None) code own (get_or-set_same entries i (Some (length places)) None there))
      | inr ne ↦ rw (get_or-set_other entries i j (Some (length places)) None ne)
          (entry_wider m base (at + 1) places (place_from m base at code) (get_or lines j Text) (get_or entries j None)
          (entry_on m base at places (get_or lines j Text) (get_or entries j None) (t.entered j b) (λ loc d e q. ne (only j loc d b e q))))
    ]

    of_lines : (k : ℕ) → k < length (places ++ place_from m base at code ∷ []) → Contains (set entries i (Some (length places))) (Some k)
    of_lines k b = elim (cases_lt k (length places)) [
      | inl low ↦ (
          let c = t.of_lines k low in
          let other : c.0 ≢ i = λ e. (let f : get_or entries i (Some k) ≡ Some k = rw (← e) c.2 in let g : get_or entries i (Some k) ≡ get_or entries i None = get_or_default entries i (Some k) None there in none-some k (sym none ∙ (sym g ∙ f))) in
          (c.0, omega (arith, c.1, length-set entries i (Some (length places))), get_or-set_other entries i c.0 (Some (length places)) (Some k) other ∙ c.2))
      | inr high ↦ (
          let e : length places ≡ k = omega (arith, grown) in
          (i, omega (arith, there, length-set entries i (Some (length places))), get_or-set_same entries i (Some (length places)) (Some k) there ∙ ap (λ x. Some x) e))
    ]

    last : (k : ℕ) → k < length (places ++ place_from m base at code ∷ []) → length places ≤ k → place_of (places ++ place_from m base at code ∷ []) k ≡ place_from m base at code
    last k b high = get_or_push places (place_from m base at code) no_place k (omega (arith, grown))

    low : (k : ℕ) → k < length (places ++ place_from m base at code ∷ []) → (place_of (places ++ place_from m base at code ∷ []) k).at < base + (at + 1)
    low k b = elim (cases_lt k (length places)) [
      | inl old ↦ rw (get_or_append_left places (place_from m base at code ∷ []) no_place k old) (omega (arith, t.low k old))
      | inr high ↦ rw (last k b high) (omega arith)
    ]

    rising : AllPairs (λ q r. q.at < r.at) (places ++ place_from m base at code ∷ [])
    rising j k d a b = elim (cases_lt k (length places)) [
      | inl old ↦ rw (get_or_append_left places (place_from m base at code ∷ []) d k old, get_or_append_left places (place_from m base at code ∷ []) d j (omega arith)) (t.rising j k d a old)
      | inr high ↦ (
          let at_end : length places ≡ k = omega (arith, grown) in
          let before : j < length places = omega arith in
          rw (get_or_push places (place_from m base at code) d k at_end, get_or_append_left places (place_from m base at code ∷ []) d j before, get_or_default places j d no_place before) (t.low j before))
    ]

at_all : (m base size : ℕ) (places : List Place) (line : Line) (entry : Option ℕ) → is_inside size line ≡ true → is_sound line ≡ true → IsEntryBelow m base size places line entry → IsEntry m base places line entry
at_all m base size places Text entry inside sound h = h
at_all m base size places (says.Code loc code) entry inside sound h =
    let long = sound_length loc code sound in
    h.0 (omega (arith, leb-true (loc + code.len) size inside))

counted : (m base : ℕ) (places : List Place) (line : Line) (entry : Option ℕ) → IsEntry m base places line entry → is_some entry ≡ is_code line
counted m base places Text entry h = rw h refl
counted m base places (says.Code loc code) None h = absurd h
counted m base places (says.Code loc code) (Some k) h = refl

same_count : (entries : List (Option ℕ)) (lines : List Line) → length entries ≡ length lines → ((i : ℕ) → i < length lines → is_some (get_or entries i None) ≡ is_code (get_or lines i Text)) → count_by is_some entries ≡ count_by is_code lines
same_count [] [] e h = refl
same_count [] (line ∷ lines) e h = absurd (omega arith)
same_count (x ∷ xs) [] e h = absurd (omega arith)
same_count (x ∷ xs) (line ∷ lines) e h =
    let first : is_some x ≡ is_code line = h 0 (omega arith) in
    let rest = same_count xs lines (omega arith) (λ i l. h (suc i) (omega arith)) in
    let one : Bool → ℕ = λ b. cond b 1 0 in
    let same : one (is_some x) ≡ one (is_code line) = ap one first in
    sum_by-cons (λ v. one (is_some v)) x xs ∙ (ap (λ n. n + count_by is_some xs) same ∙ (ap (λ n. one (is_code line) + n) rest ∙ sym (sum_by-cons (λ v. one (is_code v)) line lines)))

pub record AllTabled (m base : ℕ) (lines : List Line) (places : List Place) (entries : List (Option ℕ)) : Type 0 where
  pub table : IsTable m base lines (record { «module» = m; places = places; lines = entries })
  pub size : length places ≡ count_by is_code lines

pub tabled_all : (m base : ℕ) (lines : List Line) (at size : ℕ) (places : List Place) (entries : List (Option ℕ)) → IsTabled m base lines at places entries → at ≡ size → AllPass (is_inside size) lines → AllPass is_sound lines → AllTabled m base lines places entries
tabled_all m base lines at size places entries t e inside sound =
    let each : (i : ℕ) → i < length lines → IsEntry m base places (get_or lines i Text) (get_or entries i None) =
    λ i l. at_all m base size places (get_or lines i Text) (get_or entries i None) (inside i Text l) (sound i Text l) (rw e at (t.entered i l)) in
    record {
      table = record { of = refl; count = t.count; entries = each; of_lines = t.of_lines; rising = t.rising };
      size = sym t.filled ∙ same_count entries lines t.count (λ i l. counted m base places (get_or lines i Text) (get_or entries i None) (each i l));
    }
