-- The words of an item.
use Rattle.std.proofs.Common.{◌≡◌, ℕ, ◌&&◌, Bool, true, false, cond, nat_eq, nat_le, Option, Some, None, List, [], ◌∷◌, length, take, drop, refl, sym, ◌∙◌, get_or, slice_index, ◌-◌, arith, ap}
use Rattle.std.proofs.lemmas.Bool.{and_right}
use Rattle.std.proofs.lemmas.List.{take_rest}
use Rattle.std.proofs.lemmas.Bool.Decides.{nat_tests}
use Rattle.std.proofs.lemmas.List.Folds.{list_all_at}
use Rattle.std.proofs.lemmas.List.Quantifiers.{position-Some}
use Rattle.std.specs.List.{list_all, position}
use Rattle.cov_base.specs.Meaning.{is_letter, is_name_byte, padded, name_at, words, put_first}
use Rattle.session_book.specs.Meaning.{JobView}
use Rattle.job_text.specs.Meaning.{task_item, item_of}
use Rattle.job_text.proofs.WordLemmas.{Cut, cut_at, no_cut}

-- words are never none
words_of : (b : ℕ) (bs : List ℕ) (q : Bool) → cond q ([] ∷ words bs) (put_first b (words bs)) ≡ [] → ⊥
words_of b bs true e = absurd cc
words_of b bs false e = put_some b (words bs) e
  where
    put_some : (b : ℕ) (ws : List (List ℕ)) → put_first b ws ≡ [] → ⊥
    put_some b [] e = absurd cc
    put_some b (w ∷ ws) e = absurd cc

some_words : (s : List ℕ) → words s ≡ [] → ⊥
some_words [] e = absurd cc
some_words (b ∷ bs) e = words_of b bs (nat_eq b 32) e

-- three words or more are no item
many_words : (j : JobView) (key name : List ℕ) (ws : List (List ℕ)) → (ws ≡ [] → ⊥) → item_of j (key ∷ (name ∷ ws)) ≡ None
many_words j key name [] some = absurd (some refl)
many_words j key name (w ∷ ws) some = refl

-- a blank is no part of a name
blank_none : (w : List ℕ) (k : ℕ) → position (λ b. nat_eq b 32) w ≡ Some k → name_at w ≡ None
blank_none w k e =
    let p = position-Some (λ b. nat_eq b 32) w k 32 e in
    let is : get_or w k 32 ≡ 32 = grind (arith, nat_tests, p.1) in
    let out : list_all is_name_byte w ≡ false = list_all_at is_name_byte w k 32 p.0 (rw is refl) in
    ap (λ (q : Bool). cond q (Some (padded w)) None) (and_right (nat_le 1 (length w) && nat_le (length w) 8 && is_letter (slice_index w 0)) _ out)

named_by : (j : JobView) (key name : List ℕ) (o : Option ℕ) → position (λ b. nat_eq b 32) name ≡ o → item_of j (key ∷ words name) ≡ task_item j key name
named_by j key name None e = rw (no_cut name e) refl
named_by j key name (Some k) e =
    let c : Cut name k = cut_at name k e in
    let none : name_at name ≡ None = blank_none name k e in
    let left : item_of j (key ∷ words name) ≡ None = rw c.is (many_words j key (take k name) (words (drop 1 (drop k name))) (some_words (drop 1 (drop k name)))) in
    left ∙ (rw none refl)

-- the line is parted at its first blank
pub parted : (j : JobView) (line key rest : List ℕ) (k : ℕ) → position (λ b. nat_eq b 32) line ≡ Some k → key ≡ take k line → rest ≡ drop k line →
    task_item j key (take (length rest - 1) (drop 1 rest)) ≡ item_of j (words line)
parted j line key rest k e front back =
    let c : Cut line k = cut_at line k e in
    rw (take_rest rest 1, c.is, front, back) (sym (named_by j (take k line) (drop 1 (drop k line)) (position (λ b. nat_eq b 32) (drop 1 (drop k line))) refl))

-- one word is an item only where it is the last
pub alone : (j : JobView) (line : List ℕ) → position (λ b. nat_eq b 32) line ≡ None → item_of j (words line) ≡ item_of j (line ∷ [])
alone j line e = rw (no_cut line e) refl
