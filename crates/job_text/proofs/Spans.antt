-- How many lines a text has.
use Rattle.std.proofs.Common.{◌≡◌, ℕ, ◌+◌, ◌≤◌, Bool, true, false, cond, nat_eq, List, [], ◌∷◌, length, refl, arith}
use Rattle.job_text.specs.Meaning.{LineView, put_on, lines_of}

put_some : (b : ℕ) (ls : List LineView) → put_on b ls ≡ [] → ⊥
put_some b [] e = absurd cc
put_some b (l ∷ ls) e = absurd cc

no_lines_by : (b : ℕ) (bs : List ℕ) (q : Bool) → cond q (record { bytes = []; ended = true } ∷ lines_of bs) (put_on b (lines_of bs)) ≡ [] → ⊥
no_lines_by b bs true e = absurd cc
no_lines_by b bs false e = put_some b (lines_of bs) e

pub no_lines : (bs : List ℕ) → lines_of bs ≡ [] → bs ≡ []
no_lines [] e = refl
no_lines (b ∷ bs) e = absurd (no_lines_by b bs (nat_eq b 10) e)

put_length : (b : ℕ) (ls : List LineView) → length (put_on b ls) ≤ length ls + 1
put_length b [] = omega arith
put_length b (l ∷ ls) = omega arith

count_first : (b : ℕ) (bs : List ℕ) (q : Bool) → nat_eq b 10 ≡ q → length (lines_of bs) ≤ length bs → length (lines_of (b ∷ bs)) ≤ length bs + 1
count_first b bs true e h = rw e (omega (arith, h))
count_first b bs false e h = let p = put_length b (lines_of bs) in rw e (omega (arith, h, p))

-- a text has no more lines than bytes
pub lines_count : (bs : List ℕ) → length (lines_of bs) ≤ length bs
lines_count [] = omega arith
lines_count (b ∷ bs) = let h = count_first b bs (nat_eq b 10) refl (lines_count bs) in omega (arith, h)
