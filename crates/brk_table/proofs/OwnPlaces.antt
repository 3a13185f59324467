-- The places of a table whose listing has no fault: apart, and the module's own.
use Rattle.std.proofs.Common.{◌≡◌, ◌≢◌, inl, inr, ℕ, ◌+◌, ◌-◌, ◌*◌, ◌%◌, ◌<◌, ◌≤◌, zero, suc, Bool, true, false, nat_lt, ◌==◌, Option, Some, None, List, [], length, get_or, take, drop, refl, sym, ap, ◌∙◌, subst, arith}
use Rattle.std.specs.Prelude.{slice_index, IfSome, count_by}
use Rattle.std.specs.List.{list_any, AllPass}
use Rattle.std.specs.Option.{option_or}
use Rattle.std.specs.Str.{bytes_eq}
use Rattle.std.proofs.lemmas.Bool.{cases_lt, lt-ltb, false_from_ne_true}
use Rattle.std.proofs.lemmas.Bool.Decides.{nat_tests}
use Rattle.std.proofs.lemmas.List.{get_or_default, get_or-take, length-take-le}
use Rattle.std.proofs.lemmas.List.Folds.{list_any_at}
use Rattle.std.proofs.lemmas.Slice.Eq.{bytes_eq-Decides}
use Rattle.cov_base.specs.Meaning.{breakpoint, length_of, ImageView}
use Rattle.s370_decode.specs.Meaning.{first_half}
use Rattle.s370_decode.specs.declared.code.Code.{Code}
use Rattle.module_area.specs.Meaning.{no_place, place_of}
use Rattle.module_area.specs.declared.places.Place.{Place}
use Rattle.listing_reader.specs.Listing.{is_sound}
use Rattle.listing_reader.specs.declared.lines.Line.{Line}
use Rattle.listing_reader.specs.declared.lines.Line.TheVariants.{Text}
use Rattle.listing_reader.specs.declared.lines.Line.TheVariants as says
use Rattle.brk_table.specs.Meaning.{TableView, shares, is_code, module_code, fault_at, first_fault, place_from, IsEntry, IsTable}
use Rattle.brk_table.specs.Places.{IsPlace, AreApart}
use Rattle.brk_table.specs.Build.{IsOwn, HasOwnPlaces}
use Rattle.brk_table.specs.declared.faults.BuildFault.{BuildFault}
use Rattle.brk_table.proofs.FaultLemmas.{IsFaultless, faultless, sound_length}
use Rattle.brk_table.proofs.Passes.{next_fault}

neither : (a b : Option BuildFault) → option_or a b ≡ None → (a ≡ None) × (b ≡ None)
neither None b h = (refl, h)
neither (Some e) b h = absurd cc

-- the lines from i on have no fault
none_from : (bytes : List ℕ) (room : ℕ) (lines : List Line) → first_fault bytes room [] lines ≡ None → (i : ℕ) → i ≤ length lines → first_fault bytes room (take i lines) (drop i lines) ≡ None
none_from bytes room lines h zero l = h
none_from bytes room lines h (suc i) l =
    let before = none_from bytes room lines h i (omega arith) in
    let below : i < length lines = omega arith in
    let one : i + 1 ≡ suc i = omega arith in
    let both = neither (fault_at bytes room (take i lines) (get_or lines i Text)) (first_fault bytes room (take (i + 1) lines) (drop (i + 1) lines)) (sym (next_fault bytes room lines i below) ∙ before) in
    subst (λ n. first_fault bytes room (take n lines) (drop n lines) ≡ None) one both.1

none_at_line : (bytes : List ℕ) (room : ℕ) (lines : List Line) → first_fault bytes room [] lines ≡ None → (i : ℕ) → i < length lines → fault_at bytes room (take i lines) (get_or lines i Text) ≡ None
none_at_line bytes room lines h i l =
    let both = neither (fault_at bytes room (take i lines) (get_or lines i Text)) (first_fault bytes room (take (i + 1) lines) (drop (i + 1) lines)) (sym (next_fault bytes room lines i l) ∙ none_from bytes room lines h i (omega arith)) in
    both.0

-- the line of a place
pub record OfLine (m base : ℕ) (bytes : List ℕ) (room : ℕ) (lines : List Line) (t : TableView) (k : ℕ) : Type 0 where
  pub i : ℕ
  pub loc : ℕ
  pub code : Code
  pub below : i < length lines
  pub line : get_or lines i Text ≡ says.Code loc code
  pub entry : get_or t.lines i None ≡ Some k
  pub place : place_of t.places k ≡ place_from m base loc code
  pub long : 2 ≤ code.len
  pub size : code.len ≡ length_of (first_half code)
  pub fine : IsFaultless bytes room (list_any (shares loc code) (take i lines)) (count_by is_code (take i lines)) loc code

by_line : (m base : ℕ) (bytes : List ℕ) (room : ℕ) (lines : List Line) (t : TableView) (k i : ℕ) (line : Line) → get_or lines i Text ≡ line → i < length lines → get_or t.lines i None ≡ Some k → IsEntry m base t.places line (Some k) → is_sound line ≡ true
    → fault_at bytes room (take i lines) line ≡ None → OfLine m base bytes room lines t k
by_line m base bytes room lines t k i Text e b n h s f = absurd cc
by_line m base bytes room lines t k i (says.Code loc code) e b n h s f = record {
  i = i;
  loc = loc;
  code = code;
  below = b;
  line = e;
  entry = n;
  place = h.1;
  long = sound_length loc code s;
  size = grind (arith, nat_tests);
  fine = faultless bytes room (list_any (shares loc code) (take i lines)) (count_by is_code (take i lines)) (length (take i lines) + 1) loc code f;
}

pub of_line : (m base : ℕ) (bytes : List ℕ) (room : ℕ) (lines : List Line) (t : TableView) → IsTable m base lines t → first_fault bytes room [] lines ≡ None → AllPass is_sound lines → (k : ℕ) → k < length t.places → OfLine m base bytes room lines t k
of_line m base bytes room lines t is none sound k l =
    let c = is.of_lines k l in
    let b : c.0 < length lines = omega (arith, c.1, is.count) in
    let n : get_or t.lines c.0 None ≡ Some k = get_or_default t.lines c.0 None (Some k) c.1 ∙ c.2 in
    by_line m base bytes room lines t k c.0 (get_or lines c.0 Text) refl b n (subst (λ e. IsEntry m base t.places (get_or lines c.0 Text) e) n (is.entries c.0 b)) (sound c.0 Text b) (none_at_line bytes room lines none c.0 b)

no_own : (h : ℕ) → (h == breakpoint) ≡ false → h ≢ breakpoint
no_own h e q = grind (arith, nat_tests)

own_half : (bytes : List ℕ) (loc : ℕ) (code : Code) → 2 ≤ code.len → bytes_eq code.bytes (module_code bytes loc code.len).bytes ≡ true → first_half code ≡ slice_index bytes loc * 256 + slice_index bytes (loc + 1)
unfolding module_code
own_half bytes loc code long e =
    let same = (bytes_eq-Decides code.bytes (module_code bytes loc code.len).bytes).0 e in
    let zero_in : nat_lt 0 code.len ≡ true = lt-ltb 0 code.len (omega arith) in
    let one_in : nat_lt 1 code.len ≡ true = lt-ltb 1 code.len (omega arith) in
    let at : loc + 0 ≡ loc = omega arith in
    let first : slice_index code.bytes 0 ≡ slice_index bytes loc = ap (λ x. slice_index x 0) same ∙ rw (zero_in, at) refl in
    let second : slice_index code.bytes 1 ≡ slice_index bytes (loc + 1) = ap (λ x. slice_index x 1) same ∙ rw one_in refl in
    ap (λ x. x * 256 + slice_index code.bytes 1) first ∙ ap (λ x. slice_index bytes loc * 256 + x) second

-- a place, as its line has it
place_is : (m : ℕ) (image : ImageView) (loc : ℕ) (code : Code) (room before : ℕ) (shared : Bool) → image.base % 2 ≡ 0 → image.base + length image.bytes ≤ 16777216 → code.len ≡ length_of (first_half code) → IsFaultless image.bytes room shared before loc code
    → IsPlace (place_from m image.base loc code)
place_is m image loc code room before shared even below size fine = record {
  even = omega (arith, even, fine.even);
  size = size;
  kind = refl;
  no_breakpoint = no_own (first_half code) fine.free;
  below = omega (arith, fine.inside, below);
}

own_is : (m : ℕ) (image : ImageView) (loc : ℕ) (code : Code) (room before : ℕ) (shared : Bool) → 2 ≤ code.len → IsFaultless image.bytes room shared before loc code → IsOwn m image (place_from m image.base loc code)
own_is m image loc code room before shared long fine =
    let at : image.base + loc - image.base ≡ loc = omega arith in
    record {
      of = refl;
      from = omega arith;
      to = omega (arith, fine.inside);
      original = rw at (own_half image.bytes loc code long fine.same);
    }

apart_bytes : (m base a b : ℕ) (c d : Code) → shares a c (says.Code b d) ≡ false → AreApart (place_from m base a c) (place_from m base b d)
apart_bytes m base a b c d h = elim (cases_lt a (b + d.len)) [
  | inr over ↦ inr (omega arith)
  | inl under ↦ elim (cases_lt b (a + c.len)) [
    | inr past ↦ inl (omega arith)
    | inl meets ↦ absurd (let t : shares a c (says.Code b d) ≡ true = rw (lt-ltb a (b + d.len) under, lt-ltb b (a + c.len) meets) refl in cc)
  ]
]

not_any : (test : Line → Bool) (lines : List Line) (i : ℕ) → list_any test lines ≡ false → i < length lines → test (get_or lines i Text) ≡ false
not_any test lines i h l = false_from_ne_true _ (λ e. let t = list_any_at test lines i Text l e in absurd cc)

apart_lines : (m base : ℕ) (bytes : List ℕ) (room : ℕ) (lines : List Line) (t : TableView) (j k : ℕ) (a : OfLine m base bytes room lines t j) (b : OfLine m base bytes room lines t k) → a.i < b.i → AreApart (place_from m base b.loc b.code) (place_from m base a.loc a.code)
apart_lines m base bytes room lines t j k a b l =
    let within : a.i < length (take b.i lines) = omega (arith, length-take-le b.i lines (omega (arith, b.below))) in
    let same : get_or (take b.i lines) a.i Text ≡ says.Code a.loc a.code = get_or-take b.i lines a.i Text l ∙ a.line in
    let no : shares b.loc b.code (says.Code a.loc a.code) ≡ false = ap (shares b.loc b.code) (sym same) ∙ not_any (shares b.loc b.code) (take b.i lines) a.i b.fine.apart within in
    apart_bytes m base b.loc a.loc b.code a.code no

flip : (p q : Place) → AreApart p q → AreApart q p
flip p q (inl h) = inr h
flip p q (inr h) = inl h

apart_pair : (m base : ℕ) (bytes : List ℕ) (room : ℕ) (lines : List Line) (t : TableView) (j k : ℕ) → j < k → (a : OfLine m base bytes room lines t j) (b : OfLine m base bytes room lines t k) → AreApart (place_of t.places j) (place_of t.places k)
apart_pair m base bytes room lines t j k l a b = rw (a.place, b.place) (elim (cases_lt a.i b.i) [
  | inl less ↦ flip (place_from m base b.loc b.code) (place_from m base a.loc a.code) (apart_lines m base bytes room lines t j k a b less)
  | inr most ↦ apart_lines m base bytes room lines t k j b a (let apart : a.i ≢ b.i = differ in omega arith)
])
  where
    differ : a.i ≡ b.i → ⊥
    differ e =
        let s : Some j ≡ Some k = sym a.entry ∙ (ap (λ i. get_or t.lines i None) e ∙ b.entry) in
        let q : j ≡ k = cc in
        omega arith

in_table : (m base : ℕ) (places : List Place) (line : Line) (entry : Option ℕ) → IsEntry m base places line entry → IfSome entry (λ k. k < length places)
in_table m base places Text entry h = rw h tt
in_table m base places (says.Code loc code) None h = tt
in_table m base places (says.Code loc code) (Some k) h = h.0

pub own_places : (m : ℕ) (image : ImageView) (room : ℕ) (lines : List Line) (t : TableView) → IsTable m image.base lines t → first_fault image.bytes room [] lines ≡ None → AllPass is_sound lines → image.base % 2 ≡ 0 → image.base + length image.bytes ≤ 16777216
    → HasOwnPlaces m image t
own_places m image room lines t is none sound even below = record {
  of = is.of;
  each = λ k d l. (let a = of_line m image.base image.bytes room lines t is none sound k l in
      rw (get_or_default t.places k d no_place l, a.place) (place_is m image a.loc a.code room _ _ even below a.size a.fine));
  own = λ k d l. (let a = of_line m image.base image.bytes room lines t is none sound k l in
      rw (get_or_default t.places k d no_place l, a.place) (own_is m image a.loc a.code room _ _ a.long a.fine));
  apart = λ j k d l b. (let a = of_line m image.base image.bytes room lines t is none sound in
      rw (get_or_default t.places j d no_place (omega arith), get_or_default t.places k d no_place b) (apart_pair m image.base image.bytes room lines t j k l (a j (omega arith)) (a k b)));
  rising = is.rising;
  lines = λ i d l. (let b : i < length lines = omega (arith, is.count) in
      rw (get_or_default t.lines i d None l) (in_table m image.base t.places (get_or lines i Text) (get_or t.lines i None) (is.entries i b)));
}
