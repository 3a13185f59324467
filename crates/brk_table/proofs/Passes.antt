-- The lines one after the other: their faults, and what the cover knows of them.
use Rattle.std.proofs.Common.{◌≡◌, ℕ, ◌+◌, ◌<◌, ◌≤◌, Bool, true, false, Option, Some, None, List, [], ◌∷◌, ◌++◌, length, get_or, take, drop, refl, sym, ap, ◌∙◌, arith}
use Rattle.std.specs.Prelude.{count_by}
use Rattle.std.specs.List.{list_any, AllPass}
use Rattle.std.specs.Option.{option_or}
use Rattle.std.proofs.lemmas.List.{take_more, drop_more, length-take-le, get_or-take, take_all, drop_all}
use Rattle.std.proofs.lemmas.List.Sums.{count_by_more_yes, count_by_more_no}
use Rattle.std.proofs.lemmas.List.Elements.{All-push}
use Rattle.std.proofs.lemmas.Bool.{le-leb}
use Rattle.s370_decode.specs.declared.code.Code.{Code}
use Rattle.listing_reader.specs.Listing.{is_sound}
use Rattle.listing_reader.specs.declared.lines.Line.{Line}
use Rattle.listing_reader.specs.declared.lines.Line.TheVariants.{Text}
use Rattle.listing_reader.specs.declared.lines.Line.TheVariants as says
use Rattle.brk_table.specs.Meaning.{shares, is_code, fault_by, fault_at, first_fault}
use Rattle.brk_table.specs.Cover.{is_covered, is_inside, IsCover}
use Rattle.brk_table.specs.declared.faults.BuildFault.{BuildFault}
use Rattle.brk_table.proofs.FaultLemmas.{IsFaultless, faultless, same_fault, sound_length, cover_text, cover_more}

-- what is known before line i
pub record AtLine (bytes : List ℕ) (room : ℕ) (lines : List Line) (i : ℕ) (cover : List (Option ℕ)) (before : ℕ) : Type 0 where
  pub size : length cover ≡ length bytes
  pub cover_is : IsCover (take i lines) cover
  pub count : before ≡ count_by is_code (take i lines)
  pub rest : first_fault bytes room (take i lines) (drop i lines) ≡ first_fault bytes room [] lines
  pub inside : AllPass (is_inside (length bytes)) (take i lines)
  pub fits : before ≤ room

sound_take : (lines : List Line) (i : ℕ) → i < length lines → AllPass is_sound lines → AllPass is_sound (take i lines)
sound_take lines i l h k d b =
    let e = length-take-le i lines (omega arith) in
    rw (get_or-take i lines k d (omega arith)) (h k d (omega arith))

pub next_fault : (bytes : List ℕ) (room : ℕ) (lines : List Line) (i : ℕ) → i < length lines
    → first_fault bytes room (take i lines) (drop i lines) ≡ option_or (fault_at bytes room (take i lines) (get_or lines i Text)) (first_fault bytes room (take (i + 1) lines) (drop (i + 1) lines))
next_fault bytes room lines i l = rw (drop_more lines i Text l, take_more lines i Text l) refl

same_counts : (bytes : List ℕ) (room : ℕ) (shared : Bool) (a b m n loc : ℕ) (code : Code) → a ≡ b → m ≡ n → fault_by bytes room shared a m loc code ≡ fault_by bytes room shared b n loc code
same_counts bytes room shared a b m n loc code p q = rw (p, q) refl

-- the fault of the instruction at line i
code_fault : (bytes : List ℕ) (room : ℕ) (lines : List Line) (i : ℕ) (cover : List (Option ℕ)) (before loc : ℕ) (code : Code) → AtLine bytes room lines i cover before → i < length lines
    → AllPass is_sound lines → get_or lines i Text ≡ says.Code loc code
    → fault_at bytes room (take i lines) (get_or lines i Text) ≡ fault_by bytes room (is_covered cover loc code.len) before (i + 1) loc code
code_fault bytes room lines i cover before loc code at l sound is =
    let own : is_sound (says.Code loc code) ≡ true = ap is_sound (sym is) ∙ sound i Text l in
    let n : length (take i lines) ≡ i = length-take-le i lines (omega arith) in
    ap (λ x. fault_at bytes room (take i lines) x) is
    ∙ (same_counts bytes room (list_any (shares loc code) (take i lines)) (count_by is_code (take i lines)) before (length (take i lines) + 1) (i + 1) loc code (sym at.count) (ap (λ x. x + 1) n)
    ∙ sym (same_fault bytes room before (i + 1) (take i lines) cover loc code at.cover_is at.size (sound_length loc code own) (sound_take lines i l sound)))

pub found_fault : (bytes : List ℕ) (room : ℕ) (lines : List Line) (i : ℕ) (cover : List (Option ℕ)) (before loc : ℕ) (code : Code) (f : BuildFault) → AtLine bytes room lines i cover before → i < length lines
    → AllPass is_sound lines → get_or lines i Text ≡ says.Code loc code → fault_by bytes room (is_covered cover loc code.len) before (i + 1) loc code ≡ Some f
    → first_fault bytes room [] lines ≡ Some f
found_fault bytes room lines i cover before loc code f at l sound is e =
    sym at.rest ∙ (next_fault bytes room lines i l ∙ rw (code_fault bytes room lines i cover before loc code at l sound is, e) refl)

pub no_fault : (bytes : List ℕ) (room : ℕ) (lines : List Line) (i : ℕ) (cover : List (Option ℕ)) (before loc : ℕ) (code : Code) → AtLine bytes room lines i cover before
    → fault_by bytes room (is_covered cover loc code.len) before (i + 1) loc code ≡ None → IsFaultless bytes room (is_covered cover loc code.len) before loc code
no_fault bytes room lines i cover before loc code at e = faultless bytes room (is_covered cover loc code.len) before (i + 1) loc code e

pub code_passed : (bytes : List ℕ) (room : ℕ) (lines : List Line) (i : ℕ) (old new : List (Option ℕ)) (before loc : ℕ) (code : Code) → AtLine bytes room lines i old before → i < length lines
    → AllPass is_sound lines → get_or lines i Text ≡ says.Code loc code → fault_by bytes room (is_covered old loc code.len) before (i + 1) loc code ≡ None
    → length new ≡ length old
    → ((k : ℕ) → loc ≤ k → k < loc + code.len → get_or new k None ≡ Some i)
    → ((k : ℕ) → k < loc → get_or new k None ≡ get_or old k None)
    → ((k : ℕ) → loc + code.len ≤ k → get_or new k None ≡ get_or old k None)
    → AtLine bytes room lines (i + 1) new (before + 1)
code_passed bytes room lines i old new before loc code at l sound is e size marked before_it behind_it =
    let none = no_fault bytes room lines i old before loc code at e in
    let n : length (take i lines) ≡ i = length-take-le i lines (omega arith) in
    let more : take (i + 1) lines ≡ take i lines ++ says.Code loc code ∷ [] = take_more lines i Text l ∙ ap (λ x. take i lines ++ x ∷ []) is in
    let its : is_code (get_or lines i Text) ≡ true = rw is refl in
    record {
      size = size ∙ at.size;
      cover_is = rw more (cover_more (take i lines) old new loc code at.cover_is size none.apart (λ k a b. rw n (marked k a b)) before_it behind_it);
      count = sym (count_by_more_yes is_code lines i Text l its ∙ ap (λ x. x + 1) (sym at.count));
      rest = sym (next_fault bytes room lines i l ∙ rw (code_fault bytes room lines i old before loc code at l sound is, e) refl) ∙ at.rest;
      inside = rw more (All-push (λ x. is_inside (length bytes) x ≡ true) (take i lines) (says.Code loc code) at.inside (le-leb (loc + code.len) (length bytes) none.inside));
      fits = omega (arith, none.fits);
    }

pub text_passed : (bytes : List ℕ) (room : ℕ) (lines : List Line) (i : ℕ) (cover : List (Option ℕ)) (before : ℕ) → AtLine bytes room lines i cover before → i < length lines
    → get_or lines i Text ≡ Text → AtLine bytes room lines (i + 1) cover before
text_passed bytes room lines i cover before at l is =
    let more : take (i + 1) lines ≡ take i lines ++ Text ∷ [] = take_more lines i Text l ∙ ap (λ x. take i lines ++ x ∷ []) is in
    let its : is_code (get_or lines i Text) ≡ false = rw is refl in
    record {
      size = at.size;
      cover_is = rw more (cover_text (take i lines) cover at.cover_is);
      count = at.count ∙ sym (count_by_more_no is_code lines i Text l its);
      rest = sym (next_fault bytes room lines i l ∙ rw is refl) ∙ at.rest;
      inside = rw more (All-push (λ x. is_inside (length bytes) x ≡ true) (take i lines) Text at.inside refl);
      fits = at.fits;
    }

pub at_start : (bytes : List ℕ) (room : ℕ) (lines : List Line) (cover : List (Option ℕ)) → length cover ≡ length bytes → ((k : ℕ) → k < length cover → get_or cover k None ≡ None) → AtLine bytes room lines 0 cover 0
at_start bytes room lines cover size fresh = record {
  size = size;
  cover_is = record { of_line = λ k i l e. absurd (let f : get_or cover k None ≡ None = fresh k l in cc); has_line = λ k i l b e. absurd (omega arith) };
  count = refl;
  rest = refl;
  inside = λ k d b. absurd (omega arith);
  fits = omega arith;
}

pub record AtEnd (bytes : List ℕ) (room : ℕ) (lines : List Line) (cover : List (Option ℕ)) : Type 0 where
  pub none : first_fault bytes room [] lines ≡ None
  pub cover_is : IsCover lines cover
  pub count : count_by is_code lines ≤ room
  pub inside : AllPass (is_inside (length bytes)) lines

pub at_end : (bytes : List ℕ) (room : ℕ) (lines : List Line) (i : ℕ) (cover : List (Option ℕ)) (before : ℕ) → AtLine bytes room lines i cover before → length lines ≤ i → AtEnd bytes room lines cover
at_end bytes room lines i cover before at past =
    let all : take i lines ≡ lines = take_all i lines past in
    record {
      none = sym at.rest ∙ rw (drop_all i lines past) refl;
      cover_is = rw all at at.cover_is;
      count = rw (ap (count_by is_code) (sym all), ← at.count) at.fits;
      inside = rw all at at.inside;
    }
