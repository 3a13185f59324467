-- Lines whose LF has come, and the bytes behind the last of them.
use Rattle.std.proofs.Common.{◌≡◌, ℕ, ◌+◌, ◌-◌, ◌<◌, ◌≤◌, Bool, true, false, not, cond, nat_eq, nat_lt, Some, None, List, [], ◌∷◌, ◌++◌, length, take, drop, suc, refl, ap, subst, sym, ◌∙◌, arith, append_assoc, length-append, take-append-drop}
use Rattle.std.proofs.Math.Seq.{take-add}
use Rattle.std.proofs.lemmas.Bool.Decides.{nat_tests}
use Rattle.std.proofs.lemmas.List.{take-append-le, length-drop, take_rest}
use Rattle.std.proofs.lemmas.List.Folds.{list_any-append}
use Rattle.std.specs.List.{position}
use Rattle.std.proofs.lemmas.Bool.{or_parts}
use Rattle.std.proofs.lemmas.Option.{cond_some}
use Rattle.job_text.specs.Meaning.{LineView, put_on, lines_of}
use Rattle.job_text.specs.Lines.{ended_lines, IsClosed}
use Rattle.job_text.specs.Taken.{has_lf}
use Rattle.job_text.proofs.LineLemmas.{end_of, ended_line, Whole, put_whole}
use Rattle.job_text.proofs.WordLemmas.{none_is}

closed_by : (q : Bool) (l : LineView) (a b : List LineView) → cond q (l ∷ a) [] ≡ l ∷ b → (q ≡ true) × (a ≡ b)
closed_by true l a b e = (refl, cc)
closed_by false l a b e = absurd cc

abbrev More : List ℕ → List ℕ → Type 0
More bs x = lines_of (bs ++ x) ≡ lines_of bs ++ lines_of x

closed_put : (b : ℕ) (bs x : List ℕ) (ls : List LineView) → lines_of bs ≡ ls → nat_eq b 10 ≡ false → ended_lines (put_on b ls) ≡ put_on b ls → (IsClosed bs → More bs x) → More (b ∷ bs) x
closed_put b bs x [] f e c more = absurd cc
closed_put b bs x (l ∷ ls) f e c more =
    let d = closed_by l.ended (record { bytes = b ∷ l.bytes; ended = l.ended }) (ended_lines ls) ls c in
    let is : IsClosed bs = rw (f, d.0, d.1) refl in
    let m : lines_of (bs ++ x) ≡ l ∷ (ls ++ lines_of x) = more is ∙ rw f refl in
    rw (e, m, f) refl

closed_first : (b : ℕ) (bs x : List ℕ) (q : Bool) → nat_eq b 10 ≡ q → IsClosed (b ∷ bs) → (IsClosed bs → More bs x) → More (b ∷ bs) x
closed_first b bs x true e c more =
    let d = closed_by true (ended_line []) (ended_lines (lines_of bs)) (lines_of bs) (rw e at c) in
    rw (e, more d.1) refl
closed_first b bs x false e c more = closed_put b bs x (lines_of bs) refl e (rw e at c) more

-- what comes behind an LF begins a line
pub closed_more : (bs x : List ℕ) → IsClosed bs → lines_of (bs ++ x) ≡ lines_of bs ++ lines_of x
closed_more [] x c = refl
closed_more (b ∷ bs) x c = closed_first b bs x (nat_eq b 10) refl c (closed_more bs x)

pub ended_append : (a b : List LineView) → ended_lines a ≡ a → ended_lines (a ++ b) ≡ a ++ ended_lines b
ended_append [] b e = refl
ended_append (l ∷ ls) b e =
    let d = closed_by l.ended l (ended_lines ls) ls e in
    rw (d.0, ended_append ls b d.1) refl

-- bytes without an LF are the first of a line
pub line_ended : (s x : List ℕ) → has_lf s ≡ false → lines_of (s ++ 10 ∷ x) ≡ ended_line s ∷ lines_of x
line_ended [] x e = refl
line_ended (b ∷ bs) x e = let d = or_parts (nat_eq b 10) (has_lf bs) e in rw (d.0, line_ended bs x d.1) refl

pub line_partial : (s : List ℕ) → has_lf s ≡ false → lines_of s ≡ Whole s
line_partial [] e = refl
line_partial (b ∷ bs) e = let d = or_parts (nat_eq b 10) (has_lf bs) e in rw (d.0, line_partial bs d.1) (put_whole b bs)

none_ended : (s : List ℕ) → ended_lines (Whole s) ≡ []
none_ended [] = refl
none_ended (b ∷ bs) = refl

pub partial_none : (s : List ℕ) → has_lf s ≡ false → ended_lines (lines_of s) ≡ []
partial_none s e = rw (line_partial s e) (none_ended s)

pub partial_append : (a b : List ℕ) → has_lf a ≡ false → has_lf b ≡ false → has_lf (a ++ b) ≡ false
partial_append a b e f = list_any-append (λ c. nat_eq c 10) a b ∙ (rw (e, f) refl)

-- the first LF

abbrev LfAt : List ℕ → ℕ → Type 0
LfAt s k = (has_lf (take k s) ≡ false) × (drop k s ≡ 10 ∷ drop (suc k) s)

lf_first : (b : ℕ) (bs : List ℕ) (q : Bool) → nat_eq b 10 ≡ q → (end_of bs < length bs → LfAt bs (end_of bs)) →
    cond (not q) (1 + end_of bs) 0 < length (b ∷ bs) → LfAt (b ∷ bs) (cond (not q) (1 + end_of bs) 0)
lf_first b bs true e more h = let is : b ≡ 10 = grind (arith, nat_tests) in (refl, ap (λ (c : ℕ). c ∷ bs) is)
lf_first b bs false e more h =
    let one : 1 + end_of bs ≡ suc (end_of bs) = omega arith in
    let tail : LfAt bs (end_of bs) = more (omega arith) in
    rw one (rw (e, tail.0) refl, tail.1)

lf_at : (s : List ℕ) → end_of s < length s → LfAt s (end_of s)
lf_at [] h = absurd (omega arith)
lf_at (b ∷ bs) h = lf_first b bs (nat_eq b 10) refl (lf_at bs) h

no_lf_first : (b : ℕ) (bs : List ℕ) (q : Bool) → nat_eq b 10 ≡ q → (length bs ≤ end_of bs → has_lf bs ≡ false) →
    length (b ∷ bs) ≤ cond (not q) (1 + end_of bs) 0 → has_lf (b ∷ bs) ≡ false
no_lf_first b bs true e more h = absurd (omega arith)
no_lf_first b bs false e more h = rw (e, more (omega arith)) refl

no_lf : (s : List ℕ) → length s ≤ end_of s → has_lf s ≡ false
no_lf [] h = refl
no_lf (b ∷ bs) h = no_lf_first b bs (nat_eq b 10) refl (no_lf bs) h

-- the next LF of a piece, behind so many bytes that were used
pub record LfNext (piece : List ℕ) (used size : ℕ) : Type 0 where
  pub inside : used + size < length piece
  pub partial : has_lf (take size (drop used piece)) ≡ false
  pub taken : take (used + (size + 1)) piece ≡ take used piece ++ (take size (drop used piece) ++ 10 ∷ [])
  pub whole : piece ≡ take used piece ++ (take size (drop used piece) ++ 10 ∷ drop (suc size) (drop used piece))

pub lf_next : (piece : List ℕ) (used size : ℕ) → used ≤ length piece → position (λ b. nat_eq b 10) (take (length piece - used) (drop used piece)) ≡ Some size → LfNext piece used size
lf_next piece used size h was =
    let e : position (λ b. nat_eq b 10) (drop used piece) ≡ Some size = sym (ap (λ (x : List ℕ). position (λ b. nat_eq b 10) x) (take_rest piece used)) ∙ was in
    let s : List ℕ = drop used piece in
    let count : length s ≡ length piece - used = length-drop used piece in
    let found = cond_some (nat_lt (end_of s) (length s)) (end_of s) size e in
    let inside : end_of s < length s = grind (arith, nat_tests, found.0) in
    let at : LfAt s size = subst (LfAt s) found.1 (lf_at s inside) in
    let last : take (size + 1) s ≡ take size s ++ 10 ∷ [] = take-add size 1 s ∙ (ap (λ (x : List ℕ). take size s ++ take 1 x) at.1) in
    let parts : s ≡ take size s ++ 10 ∷ drop (suc size) s = sym (take-append-drop size s) ∙ ap (λ (x : List ℕ). take size s ++ x) at.1 in
    record {
      inside = omega (arith, inside, found.1, count);
      partial = at.0;
      taken = take-add used (size + 1) piece ∙ ap (λ (x : List ℕ). take used piece ++ x) last;
      whole = sym (take-append-drop used piece) ∙ ap (λ (x : List ℕ). take used piece ++ x) parts;
    }

pub lf_none : (piece : List ℕ) (used : ℕ) → position (λ b. nat_eq b 10) (take (length piece - used) (drop used piece)) ≡ None → has_lf (take (length piece - used) (drop used piece)) ≡ false
lf_none piece used was =
    let e : position (λ b. nat_eq b 10) (drop used piece) ≡ None = sym (ap (λ (x : List ℕ). position (λ b. nat_eq b 10) x) (take_rest piece used)) ∙ was in
    let s : List ℕ = drop used piece in
    let none = none_is (nat_lt (end_of s) (length s)) (end_of s) e in
    ap has_lf (take_rest piece used) ∙ no_lf s (grind (arith, nat_tests, none))

-- the bytes that were used, and all behind them
pub used_all : (before piece : List ℕ) (used : ℕ) → (before ++ take used piece) ++ take (length piece - used) (drop used piece) ≡ before ++ piece
used_all before piece used =
    rw (take_rest piece used) (append_assoc before (take used piece) (drop used piece) ∙ ap (λ (x : List ℕ). before ++ x) (take-append-drop used piece))

-- the bytes up to the last LF

pub record Parted (bs : List ℕ) : Type 0 where
  pub front : List ℕ
  pub rest : List ℕ
  pub whole : bs ≡ front ++ rest
  pub lines : lines_of front ≡ ended_lines (lines_of bs)

parted_line : (b : ℕ) (bs : List ℕ) (l : LineView) (ls : List LineView) (q : Bool) → l.ended ≡ q → lines_of bs ≡ l ∷ ls → nat_eq b 10 ≡ false → Parted bs → Parted (b ∷ bs)
parted_line b bs l ls true g f e p =
    let t : lines_of p.front ≡ l ∷ ended_lines ls = p.lines ∙ rw (f, g) refl in
    record { front = b ∷ p.front; rest = p.rest; whole = ap (λ (x : List ℕ). b ∷ x) p.whole; lines = rw (e, t, f, g) refl }
parted_line b bs l ls false g f e p = record { front = []; rest = b ∷ bs; whole = refl; lines = rw (e, f, g) refl }

parted_put : (b : ℕ) (bs : List ℕ) (ls : List LineView) → lines_of bs ≡ ls → nat_eq b 10 ≡ false → Parted bs → Parted (b ∷ bs)
parted_put b bs [] f e p = record { front = []; rest = b ∷ bs; whole = refl; lines = rw (e, f) refl }
parted_put b bs (l ∷ ls) f e p = parted_line b bs l ls l.ended refl f e p

parted_first : (b : ℕ) (bs : List ℕ) (q : Bool) → nat_eq b 10 ≡ q → Parted bs → Parted (b ∷ bs)
parted_first b bs true e p = record { front = b ∷ p.front; rest = p.rest; whole = ap (λ (x : List ℕ). b ∷ x) p.whole; lines = rw (e, p.lines) refl }
parted_first b bs false e p = parted_put b bs (lines_of bs) refl e p

pub parted : (bs : List ℕ) → Parted bs
parted [] = record { front = []; rest = []; whole = refl; lines = refl }
parted (b ∷ bs) = parted_first b bs (nat_eq b 10) refl (parted bs)

ended_by : (q : Bool) (l : LineView) (ls : List LineView) → l.ended ≡ q → ended_lines ls ≡ ls → ended_lines (cond q (l ∷ ls) []) ≡ cond q (l ∷ ls) []
ended_by true l ls e f = rw (e, f) refl
ended_by false l ls e f = refl

ended_twice : (ls : List LineView) → ended_lines (ended_lines ls) ≡ ended_lines ls
ended_twice [] = refl
ended_twice (l ∷ ls) = ended_by l.ended l (ended_lines ls) refl (ended_twice ls)

-- the lines that have come with their LFs stay as they are
pub record Kept (bs x : List ℕ) : Type 0 where
  pub first : (n : ℕ) → n ≤ length (ended_lines (lines_of bs)) → take n (lines_of (bs ++ x)) ≡ take n (lines_of bs)
  pub less : length (ended_lines (lines_of bs)) ≤ length (lines_of bs)
  pub more : length (ended_lines (lines_of bs)) ≤ length (ended_lines (lines_of (bs ++ x)))
  pub within : length (ended_lines (lines_of bs)) ≤ length (lines_of (bs ++ x))

pub kept : (bs x : List ℕ) → Kept bs x
kept bs x =
    let p : Parted bs = parted bs in
    let closed : IsClosed p.front = rw p.lines (ended_twice (lines_of bs)) in
    let again : (p.front ++ p.rest) ++ x ≡ p.front ++ (p.rest ++ x) = append_assoc p.front p.rest x in
    let now : lines_of bs ≡ lines_of p.front ++ lines_of p.rest = ap lines_of p.whole ∙ closed_more p.front p.rest closed in
    let then : lines_of (bs ++ x) ≡ lines_of p.front ++ lines_of (p.rest ++ x) = ap (λ (y : List ℕ). lines_of (y ++ x)) p.whole ∙ (ap lines_of again ∙ closed_more p.front (p.rest ++ x) closed) in
    let ended : ended_lines (lines_of (bs ++ x)) ≡ lines_of p.front ++ ended_lines (lines_of (p.rest ++ x)) = ap ended_lines then ∙ ended_append (lines_of p.front) (lines_of (p.rest ++ x)) closed in
    let count : length (lines_of p.front) ≡ length (ended_lines (lines_of bs)) = ap length p.lines in
    let a : length (lines_of bs) ≡ length (lines_of p.front) + length (lines_of p.rest) = ap length now ∙ length-append (lines_of p.front) (lines_of p.rest) in
    let b : length (lines_of (bs ++ x)) ≡ length (lines_of p.front) + length (lines_of (p.rest ++ x)) = ap length then ∙ length-append (lines_of p.front) (lines_of (p.rest ++ x)) in
    let d : length (ended_lines (lines_of (bs ++ x))) ≡ length (lines_of p.front) + length (ended_lines (lines_of (p.rest ++ x))) = ap length ended ∙ length-append (lines_of p.front) (ended_lines (lines_of (p.rest ++ x))) in
    record {
      first = λ n h.
          let inside : n ≤ length (lines_of p.front) = omega (arith, count, h) in
          ap (λ (ls : List LineView). take n ls) then ∙ (take-append-le n (lines_of p.front) (lines_of (p.rest ++ x)) inside ∙ sym (ap (λ (ls : List LineView). take n ls) now ∙ take-append-le n (lines_of p.front) (lines_of p.rest) inside));
      less = omega (arith, count, a);
      more = omega (arith, count, d);
      within = omega (arith, count, b);
    }
