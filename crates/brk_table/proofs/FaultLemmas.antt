-- A line's fault by the bytes that have a line, and the cover with one instruction more.
use Rattle.std.proofs.Common.{◌≡◌, inl, inr, ℕ, ◌+◌, ◌-◌, ◌%◌, ◌<◌, ◌≤◌, Bool, true, false, cond, nat_le, nat_lt, ◌==◌, Option, Some, None, List, [], ◌∷◌, ◌++◌, length, get_or, refl, sym, ◌∙◌, arith}
use Rattle.std.specs.List.{list_any, AllPass}
use Rattle.std.specs.Str.{bytes_eq}
use Rattle.std.proofs.lemmas.Bool.{cases_lt, and_from, lt-ltb, and_parts, le-leb, leb-true, ltb-true, false_from_ne_true, leb-false, ltb-false, eqb-false}
use Rattle.std.proofs.lemmas.Bool.Decides.{nat_tests}
use Rattle.std.proofs.lemmas.List.{get_or_append_left, get_or_push, get_or_default, length_push}
use Rattle.std.proofs.lemmas.List.Folds.{list_any_none, list_any_at}
use Rattle.cov_base.specs.Meaning.{breakpoint, length_of}
use Rattle.cov_base.proofs.Laws.{length_of-least}
use Rattle.s370_decode.specs.Meaning.{first_half}
use Rattle.s370_decode.specs.declared.code.Code.{Code}
use Rattle.listing_reader.specs.Listing.{is_sound}
use Rattle.listing_reader.specs.declared.lines.Line.{Line}
use Rattle.listing_reader.specs.declared.lines.Line.TheVariants.{Text}
use Rattle.listing_reader.specs.declared.lines.Line.TheVariants as says
use Rattle.brk_table.specs.Meaning.{shares, module_code, fault_by}
use Rattle.brk_table.specs.Cover.{covers, is_covered, IsCover}
use Rattle.brk_table.proofs.CoverLemmas.{not_covered, covered}

no_first : {X : Type 0} (a : Bool) (x : X) (r : Option X) → cond a (Some x) r ≡ None → (a ≡ false) × (r ≡ None)
no_first true x r h = absurd cc
no_first false x r h = (refl, h)

no_last : {X : Type 0} (a : Bool) (x : X) → cond a None (Some x) ≡ None → a ≡ true
no_last true x h = refl
no_last false x h = absurd cc

-- what holds of an instruction without a fault
pub record IsFaultless (bytes : List ℕ) (room : ℕ) (shared : Bool) (before loc : ℕ) (code : Code) : Type 0 where
  pub even : loc % 2 ≡ 0
  pub inside : loc + code.len ≤ length bytes
  pub apart : shared ≡ false
  pub fits : before < room
  pub free : (first_half code == breakpoint) ≡ false
  pub same : bytes_eq code.bytes (module_code bytes loc code.len).bytes ≡ true

pub faultless : (bytes : List ℕ) (room : ℕ) (shared : Bool) (before n loc : ℕ) (code : Code) → fault_by bytes room shared before n loc code ≡ None → IsFaultless bytes room shared before loc code
unfolding fault_by
faultless bytes room shared before n loc code h =
    let a = no_first (loc % 2 == 1) _ _ h in
    let b = no_first (nat_lt (length bytes) (loc + code.len)) _ _ a.1 in
    let c = no_first shared _ _ b.1 in
    let d = no_first (nat_le room before) _ _ c.1 in
    let e = no_first (first_half code == breakpoint) _ _ d.1 in
    record {
      even = (let odd = eqb-false (loc % 2) 1 a.0 in omega arith);
      inside = ltb-false (length bytes) (loc + code.len) b.0;
      apart = c.0;
      fits = leb-false room before d.0;
      free = e.0;
      same = no_last (bytes_eq code.bytes (module_code bytes loc code.len).bytes) _ e.1;
    }

pub covers_code : (k loc : ℕ) (code : Code) → loc ≤ k → k < loc + code.len → covers k (says.Code loc code) ≡ true
covers_code k loc code h l = and_from (nat_le loc k) (nat_lt k (loc + code.len)) (le-leb loc k h) (lt-ltb k (loc + code.len) l)

-- the byte at k in both
shares_there : (k loc : ℕ) (code : Code) (line : Line) → loc ≤ k → k < loc + code.len → covers k line ≡ true → shares loc code line ≡ true
shares_there k loc code Text h l e = absurd cc
shares_there k loc code (says.Code other d) h l e =
    let t = and_parts (nat_le other k) (nat_lt k (other + d.len)) e in
    let p = leb-true other k t.0 in
    let q = ltb-true k (other + d.len) t.1 in
    and_from (nat_lt loc (other + d.len)) (nat_lt other (loc + code.len)) (lt-ltb loc (other + d.len) (omega arith)) (lt-ltb other (loc + code.len) (omega arith))

pub sound_length : (loc : ℕ) (code : Code) → is_sound (says.Code loc code) ≡ true → 2 ≤ code.len
sound_length loc code h =
    let e : code.len ≡ length_of (first_half code) = grind (arith, nat_tests) in
    rw e (length_of-least (first_half code))

-- the byte that two share
pub record Common (loc : ℕ) (code : Code) (line : Line) : Type 0 where
  pub k : ℕ
  pub from : loc ≤ k
  pub to : k < loc + code.len
  pub covered : covers k line ≡ true

common : (loc : ℕ) (code : Code) (line : Line) → 2 ≤ code.len → is_sound line ≡ true → shares loc code line ≡ true → Common loc code line
common loc code Text long s h = absurd cc
common loc code (says.Code other d) long s h =
    let t = and_parts (nat_lt loc (other + d.len)) (nat_lt other (loc + code.len)) h in
    let p = ltb-true loc (other + d.len) t.0 in
    let q = ltb-true other (loc + code.len) t.1 in
    let two = sound_length other d s in
    elim (cases_lt loc other) [
      | inl l ↦ record { k = other; from = omega arith; to = omega arith; covered = covers_code other other d (omega arith) (omega arith) }
      | inr g ↦ record { k = loc; from = omega arith; to = omega arith; covered = covers_code loc other d g p }
    ]

pub covered_shared : (earlier : List Line) (cover : List (Option ℕ)) (loc : ℕ) (code : Code) → IsCover earlier cover → loc + code.len ≤ length cover → 2 ≤ code.len → AllPass is_sound earlier
    → is_covered cover loc code.len ≡ list_any (shares loc code) earlier
covered_shared earlier cover loc code is inside long sound = by_test (is_covered cover loc code.len) refl
  where
    none : is_covered cover loc code.len ≡ false → (k : ℕ) (d : Line) → k < length earlier → shares loc code (get_or earlier k d) ≡ true → ⊥
    none e k d l h =
        let same : get_or earlier k d ≡ get_or earlier k Text = get_or_default earlier k d Text l in
        let c = common loc code (get_or earlier k Text) long (sound k Text l) (rw (← same) h) in
        let found : get_or cover c.k None ≡ Some k = is.has_line c.k k (omega (arith, c.to)) l c.covered in
        let at : loc + (c.k - loc) ≡ c.k = omega (arith, c.from) in
        let empty : get_or cover (loc + (c.k - loc)) None ≡ None = not_covered cover loc code.len e (c.k - loc) (omega (arith, c.from, c.to)) in
        let clash : get_or cover c.k None ≡ None = rw at at empty in
        absurd cc

    by_test : (b : Bool) → is_covered cover loc code.len ≡ b → is_covered cover loc code.len ≡ list_any (shares loc code) earlier
    by_test true e =
        let c = covered cover loc code.len e in
        let of = is.of_line (loc + c.k) c.i (omega (arith, c.below)) c.is in
        e ∙ sym (list_any_at (shares loc code) earlier c.i Text of.0 (shares_there (loc + c.k) loc code (get_or earlier c.i Text) (omega arith) (omega (arith, c.below)) of.1))
    by_test false e = e ∙ sym (list_any_none (shares loc code) earlier (λ k d l. false_from_ne_true (shares loc code (get_or earlier k d)) (none e k d l)))

pub same_fault : (bytes : List ℕ) (room before n : ℕ) (earlier : List Line) (cover : List (Option ℕ)) (loc : ℕ) (code : Code) → IsCover earlier cover → length cover ≡ length bytes → 2 ≤ code.len → AllPass is_sound earlier
    → fault_by bytes room (is_covered cover loc code.len) before n loc code ≡ fault_by bytes room (list_any (shares loc code) earlier) before n loc code
unfolding fault_by
same_fault bytes room before n earlier cover loc code is size long sound = elim (cases_lt (length bytes) (loc + code.len)) [
  | inl past ↦ rw (lt-ltb (length bytes) (loc + code.len) past) refl
  | inr inside ↦ rw (covered_shared earlier cover loc code is (rw size inside) long sound) refl
]

-- a text line more
pub cover_text : (earlier : List Line) (cover : List (Option ℕ)) → IsCover earlier cover → IsCover (earlier ++ Text ∷ []) cover
cover_text earlier cover is = record {
  of_line = λ k i l e.
      let o = is.of_line k i l e in
      (omega (arith, o.0, length_push earlier Text), rw (get_or_append_left earlier (Text ∷ []) Text i o.0) o.1);
  has_line = λ k i l b e. elim (cases_lt i (length earlier)) [
    | inl below ↦ is.has_line k i l below (rw (← get_or_append_left earlier (Text ∷ []) Text i below) e)
    | inr above ↦ (
        let at : length earlier ≡ i = omega (arith, length_push earlier Text) in
        let text : get_or (earlier ++ Text ∷ []) i Text ≡ Text = get_or_push earlier Text Text i at in
        absurd (let f : covers k Text ≡ true = rw text at e in cc))
  ];
}

-- an instruction more
pub cover_more : (earlier : List Line) (old new : List (Option ℕ)) (loc : ℕ) (code : Code) → IsCover earlier old → length new ≡ length old → is_covered old loc code.len ≡ false
    → ((k : ℕ) → loc ≤ k → k < loc + code.len → get_or new k None ≡ Some (length earlier))
    → ((k : ℕ) → k < loc → get_or new k None ≡ get_or old k None)
    → ((k : ℕ) → loc + code.len ≤ k → get_or new k None ≡ get_or old k None)
    → IsCover (earlier ++ says.Code loc code ∷ []) new
cover_more earlier old new loc code is size free marked before behind = record { of_line = of; has_line = has }
  where
    line : Line
    line = says.Code loc code

    own : get_or (earlier ++ says.Code loc code ∷ []) (length earlier) Text ≡ says.Code loc code
    own = get_or_push earlier (says.Code loc code) Text (length earlier) refl

    old_of : (k i : ℕ) → k < length new → get_or new k None ≡ get_or old k None → get_or new k None ≡ Some i → (i < length (earlier ++ says.Code loc code ∷ [])) × (covers k (get_or (earlier ++ says.Code loc code ∷ []) i Text) ≡ true)
    old_of k i l s e =
        let o = is.of_line k i (omega arith) (sym s ∙ e) in
        (omega (arith, o.0, length_push earlier (says.Code loc code)), rw (get_or_append_left earlier (says.Code loc code ∷ []) Text i o.0) o.1)

    of : (k i : ℕ) → k < length new → get_or new k None ≡ Some i → (i < length (earlier ++ says.Code loc code ∷ [])) × (covers k (get_or (earlier ++ says.Code loc code ∷ []) i Text) ≡ true)
    of k i l e = elim (cases_lt k loc) [
      | inl low ↦ old_of k i l (before k low) e
      | inr from ↦ elim (cases_lt k (loc + code.len)) [
        | inr high ↦ old_of k i l (behind k high) e
        | inl to ↦ (
            let m : get_or new k None ≡ Some (length earlier) = marked k from to in
            let n : length earlier ≡ i = cc in
            (omega (arith, n, length_push earlier (says.Code loc code)), rw (← n, own) (covers_code k loc code from to)))
      ]
    ]

    has : (k i : ℕ) → k < length new → i < length (earlier ++ says.Code loc code ∷ []) → covers k (get_or (earlier ++ says.Code loc code ∷ []) i Text) ≡ true → get_or new k None ≡ Some i
    has k i l b e = elim (cases_lt i (length earlier)) [
      | inl below ↦ (
          let there : get_or old k None ≡ Some i = is.has_line k i (omega arith) below (rw (← get_or_append_left earlier (says.Code loc code ∷ []) Text i below) e) in
          elim (cases_lt k loc) [
            | inl low ↦ before k low ∙ there
            | inr from ↦ elim (cases_lt k (loc + code.len)) [
              | inr high ↦ behind k high ∙ there
              | inl to ↦ (
                  let at : loc + (k - loc) ≡ k = omega arith in
                  let empty : get_or old (loc + (k - loc)) None ≡ None = not_covered old loc code.len free (k - loc) (omega arith) in
                  let clash : get_or old k None ≡ None = rw at at empty in
                  absurd cc)
            ]
          ])
      | inr above ↦ (
          let at : length earlier ≡ i = omega (arith, length_push earlier (says.Code loc code)) in
          let c : covers k (says.Code loc code) ≡ true = rw (← at, own) at e in
          let t = and_parts (nat_le loc k) (nat_lt k (loc + code.len)) c in
          rw (← at) (marked k (leb-true loc k t.0) (ltb-true k (loc + code.len) t.1)))
    ]
