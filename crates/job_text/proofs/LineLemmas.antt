-- The first line of a text, and the others.
use Rattle.std.proofs.Common.{◌≡◌, ℕ, ◌+◌, ◌-◌, ◌<◌, ◌≤◌, Bool, true, false, not, cond, nat_eq, nat_lt, Some, None, List, [], ◌∷◌, length, take, drop, arith, suc, refl}
use Rattle.std.proofs.lemmas.List.{take_rest}
use Rattle.std.proofs.lemmas.Bool.Decides.{nat_tests}
use Rattle.std.specs.List.{position, position_or_len}
use Rattle.std.proofs.lemmas.Option.{cond_some}
use Rattle.job_text.specs.Meaning.{LineView, lines_of, put_on}
use Rattle.job_text.proofs.WordLemmas.{drop_one, none_is}

abbrev pub end_of : List ℕ → ℕ
end_of s = position_or_len (λ b. nat_eq b 10) s

abbrev pub ended_line : List ℕ → LineView
ended_line bytes = record { bytes = bytes; ended = true }

abbrev pub open_line : List ℕ → LineView
open_line bytes = record { bytes = bytes; ended = false }

abbrev EndsAt : List ℕ → ℕ → Type 0
EndsAt s k = lines_of s ≡ ended_line (take k s) ∷ lines_of (drop (suc k) s)

ends_first : (b : ℕ) (bs : List ℕ) (q : Bool) → nat_eq b 10 ≡ q → (end_of bs < length bs → EndsAt bs (end_of bs)) →
    cond (not q) (1 + end_of bs) 0 < length (b ∷ bs) → EndsAt (b ∷ bs) (cond (not q) (1 + end_of bs) 0)
ends_first b bs true e more h = rw e refl
ends_first b bs false e more h =
    let one : 1 + end_of bs ≡ suc (end_of bs) = omega arith in
    let tail : EndsAt bs (end_of bs) = more (omega arith) in
    rw (e, one, tail) refl

line_ends : (s : List ℕ) → end_of s < length s → EndsAt s (end_of s)
line_ends [] h = absurd (omega arith)
line_ends (b ∷ bs) h = ends_first b bs (nat_eq b 10) refl (line_ends bs) h

abbrev pub Whole : List ℕ → List LineView
Whole [] = []
Whole (b ∷ bs) = open_line (b ∷ bs) ∷ []

pub put_whole : (b : ℕ) (bs : List ℕ) → put_on b (Whole bs) ≡ open_line (b ∷ bs) ∷ []
put_whole b [] = refl
put_whole b (c ∷ cs) = refl

whole_first : (b : ℕ) (bs : List ℕ) (q : Bool) → nat_eq b 10 ≡ q → (length bs ≤ end_of bs → lines_of bs ≡ Whole bs) →
    length (b ∷ bs) ≤ cond (not q) (1 + end_of bs) 0 → lines_of (b ∷ bs) ≡ open_line (b ∷ bs) ∷ []
whole_first b bs true e more h = absurd (omega arith)
whole_first b bs false e more h =
    let tail : lines_of bs ≡ Whole bs = more (omega arith) in
    rw (e, tail) (put_whole b bs)

line_whole : (s : List ℕ) → length s ≤ end_of s → lines_of s ≡ Whole s
line_whole [] h = refl
line_whole (b ∷ bs) h = whole_first b bs (nat_eq b 10) refl (line_whole bs) h

-- an LF stands at k
pub first_ends : (s front back : List ℕ) (k : ℕ) → position (λ b. nat_eq b 10) s ≡ Some k → front ≡ take k s → back ≡ drop k s →
    lines_of s ≡ ended_line front ∷ lines_of (take (length back - 1) (drop 1 back))
first_ends s front back k e f b =
    let p = cond_some (nat_lt (end_of s) (length s)) (end_of s) k e in
    let inside : end_of s < length s = grind (arith, nat_tests, p.0) in
    rw (take_rest back 1, f, b, ← p.1, drop_one) (line_ends s inside)

-- no LF stands there
pub first_open : (s : List ℕ) → 0 < length s → position (λ b. nat_eq b 10) s ≡ None → lines_of s ≡ open_line s ∷ lines_of (take (length s - length s) (drop (length s) s))
first_open [] h e = absurd (omega arith)
first_open (b ∷ bs) h e =
    let p = none_is (nat_lt (end_of (b ∷ bs)) (length (b ∷ bs))) (end_of (b ∷ bs)) e in
    let none : length (b ∷ bs) - length (b ∷ bs) ≡ 0 = omega arith in
    rw none (line_whole (b ∷ bs) (grind (arith, nat_tests, p)))
