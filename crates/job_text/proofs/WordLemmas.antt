-- The first word of a line, and the others.
use Rattle.std.proofs.Common.{◌≡◌, ℕ, ◌+◌, ◌<◌, ◌≤◌, Bool, true, false, not, cond, if◌then◌else◌, Option, nat_eq, nat_lt, Some, None, List, [], ◌∷◌, length, take, drop, get_or, arith, suc, refl, map, ◌++◌, ◌-◌, append_assoc, sym, ap, ◌∙◌, drop-cons, add-one, drop-drop}
use Rattle.std.proofs.lemmas.List.{map-append, take_rest}
use Rattle.std.proofs.Math.Seq.{take-length}
use Rattle.std.proofs.lemmas.Bool.Decides.{nat_tests}
use Rattle.std.specs.List.{position, position_or_len}
use Rattle.std.proofs.lemmas.Option.{cond_some}
use Rattle.cov_base.specs.Meaning.{words, name_at}
use Rattle.std.specs.Prelude.{codes}
use Rattle.std.specs.Str.{bytes_eq}
use Rattle.job_text.specs.Meaning.{End, names_at, names_on, put_name, as_session, as_controlled, controlled_card, session_card, short_card, pair_card, module_card, task_card, long_card, card_of}

abbrev pub end_of : List ℕ → ℕ
end_of s = position_or_len (λ b. nat_eq b 32) s

abbrev pub CutsAt : List ℕ → ℕ → Type 0
CutsAt s k = words s ≡ take k s ∷ words (drop (suc k) s)

pub cut_first : (b : ℕ) (bs : List ℕ) (q : Bool) → nat_eq b 32 ≡ q → (end_of bs < length bs → CutsAt bs (end_of bs)) →
    cond (not q) (1 + end_of bs) 0 < length (b ∷ bs) → CutsAt (b ∷ bs) (cond (not q) (1 + end_of bs) 0)
cut_first b bs true e more h = rw e refl
cut_first b bs false e more h =
    let one : 1 + end_of bs ≡ suc (end_of bs) = omega arith in
    let tail : CutsAt bs (end_of bs) = more (omega arith) in
    rw (e, one, tail) refl

pub words_cut : (s : List ℕ) → end_of s < length s → CutsAt s (end_of s)
words_cut [] h = absurd (omega arith)
words_cut (b ∷ bs) h = cut_first b bs (nat_eq b 32) refl (words_cut bs) h

pub whole_first : (b : ℕ) (bs : List ℕ) (q : Bool) → nat_eq b 32 ≡ q → (length bs ≤ end_of bs → words bs ≡ bs ∷ []) →
    length (b ∷ bs) ≤ cond (not q) (1 + end_of bs) 0 → words (b ∷ bs) ≡ (b ∷ bs) ∷ []
whole_first b bs true e more h = absurd (omega arith)
whole_first b bs false e more h =
    let tail : words bs ≡ bs ∷ [] = more (omega arith) in
    rw (e, tail) refl

pub words_whole : (s : List ℕ) → length s ≤ end_of s → words s ≡ s ∷ []
words_whole [] h = refl
words_whole (b ∷ bs) h = whole_first b bs (nat_eq b 32) refl (words_whole bs) h

pub drop_one : (k : ℕ) (s : List ℕ) → drop 1 (drop k s) ≡ drop (suc k) s
drop_one k s = let on : k + 1 ≡ suc k = omega arith in drop-drop 1 k s ∙ ap (λ n. drop n s) on

pub record Cut (s : List ℕ) (k : ℕ) : Type 0 where
  pub inside : k < length s
  pub is : words s ≡ take k s ∷ words (drop 1 (drop k s))

pub none_is : (q : Bool) (m : ℕ) → cond q (Some m) None ≡ None → q ≡ false
none_is true m e = absurd cc
none_is false m e = refl

pub cut_at : (s : List ℕ) (k : ℕ) → position (λ b. nat_eq b 32) s ≡ Some k → Cut s k
cut_at s k e =
    let p = cond_some (nat_lt (end_of s) (length s)) (end_of s) k e in
    let inside : end_of s < length s = grind (arith, nat_tests, p.0) in
    record { inside = rw (← p.1) inside; is = rw (← p.1, drop_one) (words_cut s inside) }

pub no_cut : (s : List ℕ) → position (λ b. nat_eq b 32) s ≡ None → words s ≡ s ∷ []
no_cut s e =
    let p = none_is (nat_lt (end_of s) (length s)) (end_of s) e in
    words_whole s (grind (arith, nat_tests, p))

-- one word more is read
pub advance : {A : Type 0} (f : A → List ℕ) (old new : List A) (w : A) (s more line : List ℕ) (k : ℕ) → new ≡ old ++ w ∷ [] → f w ≡ take k s → more ≡ drop k s → Cut s k →
    map f old ++ words s ≡ words line → map f new ++ words (take (length more - 1) (drop 1 more)) ≡ words line
advance f old new w s more line k e word rest cut was =
    rw (take_rest more 1, e, map-append, append_assoc, word, rest, ← cut.is) was

pub names_none : (ws : List (List ℕ)) → names_on None ws ≡ None
names_none [] = refl
names_none (w ∷ ws) = refl

pub long_card-none : (key a : List ℕ) (ws : List (List ℕ)) (n : ℕ) → length ws ≡ n → (n ≡ 1 → ⊥) → (n ≡ 2 → ⊥) → (n ≡ 4 → ⊥) → long_card key a ws ≡ None
long_card-none key a [] n l o m t = refl
long_card-none key a (b ∷ []) n l o m t = absurd (o (sym l))
long_card-none key a (b ∷ c ∷ []) n l o m t = absurd (m (sym l))
long_card-none key a (b ∷ c ∷ d ∷ []) n l o m t = refl
long_card-none key a (b ∷ c ∷ d ∷ e ∷ []) n l o m t = absurd (t (sym l))
long_card-none key a (b ∷ c ∷ d ∷ e ∷ f ∷ ws) n l o m t = refl

-- two words or more behind BY are a task and its modules
pub controlled_parted : {X : Type 0} (f : X → List ℕ) (name : List ℕ) (ws : List X) (d : X) → 2 ≤ length ws →
    controlled_card name (map f ws) ≡ as_controlled (name_at name) (name_at (f (get_or ws 0 d))) (names_at (map f (take (length ws - 1) (drop 1 ws))))
controlled_parted f name [] d h = absurd (omega arith)
controlled_parted f name (t ∷ []) d h = absurd (omega arith)
controlled_parted f name (t ∷ m ∷ more) d h =
    let less : length (t ∷ m ∷ more) - 1 ≡ length (m ∷ more) = omega arith in
    rw (less, take-length more) refl

-- one name more, or a word that is none
module _ {X : Type 0} (f : X → List ℕ) (d : X) (ws : List X) (i : ℕ) (ns : List (List ℕ)) (all : Option (List (List ℕ))) where
  names_step : i < length ws → names_on (Some ns) (map f (drop i ws)) ≡ names_on (put_name ns (name_at (f (get_or ws i d)))) (map f (drop (i + 1) ws))
  names_step h = rw (drop-cons ws i d, add-one) refl

  pub names_stop : i < length ws → name_at (f (get_or ws i d)) ≡ None → names_on (Some ns) (map f (drop i ws)) ≡ all → None ≡ all
  names_stop h e was = sym (names_none (map f (drop (i + 1) ws))) ∙ (rw (names_step h, e) at was)

  pub names_more : (new : List (List ℕ)) (n : List ℕ) → i < length ws → name_at (f (get_or ws i d)) ≡ Some n → new ≡ ns ++ n ∷ [] → names_on (Some ns) (map f (drop i ws)) ≡ all → names_on (Some new) (map f (drop (i + 1) ws)) ≡ all
  names_more new n h e is was = rw is (rw (names_step h, e) at was)

-- the card of words that stand in a slice, by how many they are

module _ {X : Type 0} (f : X → List ℕ) (d : X) where
  pub session_none : (name : List ℕ) (ws : List X) → length ws < 1 → None ≡ session_card name (map f ws)
  session_none name [] h = refl
  session_none name (w ∷ ws) h = absurd (omega arith)

  pub session_parted : (name : List ℕ) (ws : List X) → 1 ≤ length ws →
      session_card name (map f ws) ≡ (if bytes_eq (f (get_or ws 0 d)) (codes "BY") then controlled_card name (map f (take (length ws - 1) (drop 1 ws))) else as_session (name_at name) (names_at (map f ws)))
  session_parted name [] h = absurd (omega arith)
  session_parted name (w ∷ ws) h =
      let less : length (w ∷ ws) - 1 ≡ length ws = omega arith in
      rw (less, take-length ws) refl

  pub long_of_one : (key a : List ℕ) (ws : List X) → length ws ≡ 1 → long_card key a (map f ws) ≡ pair_card key a (f (get_or ws 0 d))
  long_of_one key a [] h = absurd (omega arith)
  long_of_one key a (b ∷ []) h = refl
  long_of_one key a (b ∷ c ∷ ws) h = absurd (omega arith)

  pub long_of_two : (key a : List ℕ) (ws : List X) → length ws ≡ 2 → long_card key a (map f ws) ≡ module_card key a (f (get_or ws 0 d)) (f (get_or ws 1 d))
  long_of_two key a [] h = absurd (omega arith)
  long_of_two key a (b ∷ []) h = absurd (omega arith)
  long_of_two key a (b ∷ c ∷ []) h = refl
  long_of_two key a (b ∷ c ∷ e ∷ ws) h = absurd (omega arith)

  pub long_of_four : (key a : List ℕ) (ws : List X) → length ws ≡ 4 →
      long_card key a (map f ws) ≡ task_card key a (f (get_or ws 0 d)) (f (get_or ws 1 d)) (f (get_or ws 2 d)) (f (get_or ws 3 d))
  long_of_four key a [] h = absurd (omega arith)
  long_of_four key a (b ∷ []) h = absurd (omega arith)
  long_of_four key a (b ∷ c ∷ []) h = absurd (omega arith)
  long_of_four key a (b ∷ c ∷ e ∷ []) h = absurd (omega arith)
  long_of_four key a (b ∷ c ∷ e ∷ g ∷ []) h = refl
  long_of_four key a (b ∷ c ∷ e ∷ g ∷ i ∷ ws) h = absurd (omega arith)

  pub card_of_none : (ws : List X) → length ws < 1 → None ≡ card_of (map f ws)
  card_of_none [] h = refl
  card_of_none (w ∷ ws) h = absurd (omega arith)

  pub card_of_one : (ws : List X) → 1 ≤ length ws → length ws < 2 → card_of (map f ws) ≡ (if bytes_eq (f (get_or ws 0 d)) (codes "ENDJOB") then Some End else None)
  card_of_one [] h k = absurd (omega arith)
  card_of_one (w ∷ []) h k = refl
  card_of_one (w ∷ v ∷ ws) h k = absurd (omega arith)

  pub card_of_two : (ws : List X) → 2 ≤ length ws → length ws < 3 → card_of (map f ws) ≡ short_card (f (get_or ws 0 d)) (f (get_or ws 1 d))
  card_of_two [] h k = absurd (omega arith)
  card_of_two (w ∷ []) h k = absurd (omega arith)
  card_of_two (w ∷ v ∷ []) h k = refl
  card_of_two (w ∷ v ∷ u ∷ ws) h k = absurd (omega arith)

  pub card_of_more : (ws : List X) → 3 ≤ length ws → card_of (map f ws) ≡ (if bytes_eq (f (get_or ws 0 d)) (codes "SESSION") then session_card (f (get_or ws 1 d)) (map f (take (length ws - 2) (drop 2 ws)))
      else long_card (f (get_or ws 0 d)) (f (get_or ws 1 d)) (map f (take (length ws - 2) (drop 2 ws))))
  card_of_more [] h = absurd (omega arith)
  card_of_more (w ∷ []) h = absurd (omega arith)
  card_of_more (w ∷ v ∷ []) h = absurd (omega arith)
  card_of_more (w ∷ v ∷ u ∷ ws) h =
      let less : length (w ∷ v ∷ u ∷ ws) - 2 ≡ length (u ∷ ws) = omega arith in
      let same : take (length (w ∷ v ∷ u ∷ ws) - 2) (drop 2 (w ∷ v ∷ u ∷ ws)) ≡ u ∷ ws = ap (λ n. take n (u ∷ ws)) less ∙ take-length (u ∷ ws) in
      rw same refl
