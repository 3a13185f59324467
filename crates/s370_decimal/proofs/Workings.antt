-- The working of one pattern byte more, and what it keeps.
use Rattle.std.proofs.Common.{◌≡◌, ℕ, ◌+◌, ◌<◌, ◌≤◌, zero, suc, Bool, true, false, if◌then◌else◌, ◌==◌, Option, Some, None, List, [], ◌∷◌, ◌++◌, refl, add-one, arith, inl, inr, eq-or-lt_of_le}
use Rattle.std.proofs.lemmas.Bool.{and_left}
use Rattle.cov_base.specs.Meaning.{Memory, can_reach}
use Rattle.s370_decimal.specs.Meaning.{fresh, digit_of, next_digit, digit_selected, pattern_stepped, step_at, worked, formed}
use Rattle.s370_decimal.specs.declared.working.Working.{Working}
use Rattle.s370_decimal.specs.declared.working.PatternStep.{PatternStep}

pub worked_none : (m : Memory) (bytes : List ℕ) (a b : ℕ) → worked m bytes a b 0 ≡ fresh
unfolding worked
worked_none m bytes a b = refl

pub worked_more : (m : Memory) (bytes : List ℕ) (a b n : ℕ) → worked m bytes a b (n + 1) ≡ (step_at m bytes a b n (worked m bytes a b n)).working
unfolding worked
worked_more m bytes a b n = rw add-one refl

pub formed_none : (m : Memory) (bytes : List ℕ) (a b : ℕ) → formed m bytes a b 0 ≡ []
unfolding formed
formed_none m bytes a b = refl

pub formed_more : (m : Memory) (bytes : List ℕ) (a b n : ℕ) → formed m bytes a b (n + 1) ≡ formed m bytes a b n ++ (step_at m bytes a b n (worked m bytes a b n)).byte ∷ []
unfolding formed
formed_more m bytes a b n = rw add-one refl

-- where some bytes of a source are not all reached, neither are more
more_lost : (m : Memory) (b k n : ℕ) → k ≤ n → can_reach m b k ≡ false → can_reach m b n ≡ false
unfolding can_reach
more_lost m b k zero l h = let e : k ≡ 0 = omega arith in rw e at h
more_lost m b k (suc n) l h = elim (eq-or-lt_of_le l) [ inl e ↦ rw e at h | inr z ↦ and_left _ _ (more_lost m b k n (omega arith) h) ]

either_grows : (k : ℕ) (c : Bool) (x y : PatternStep) → k ≤ x.working.taken → k ≤ y.working.taken → k ≤ (if c then x else y).working.taken
either_grows k true x y h l = h
either_grows k false x y h l = l

digit_grows : (w : Working) (v : ℕ) (r : Option ℕ) → w.taken ≤ (digit_of w v r).taken
digit_grows w v None = omega arith
digit_grows w v (Some d) = omega arith

taken_grows : (m : Memory) (bytes : List ℕ) (b fill p at : ℕ) (w : Working) → w.taken ≤ (pattern_stepped m bytes b fill p at w).working.taken
unfolding pattern_stepped digit_selected next_digit
taken_grows m bytes b fill p at w =
    let d : w.taken ≤ (next_digit m bytes b w).taken = digit_grows w _ w.right in
    either_grows w.taken w.bad _ _ (omega arith) (
    either_grows w.taken (p == 32) _ _ d (
    either_grows w.taken (p == 33) _ _ d (
    either_grows w.taken (p == 34) _ _ (omega arith) (omega arith))))

-- a source byte that is inaccessible is among those that the whole working reads
pub stays_lost : (m : Memory) (bytes : List ℕ) (a b i n : ℕ) → i < n → can_reach m b (step_at m bytes a b i (worked m bytes a b i)).working.taken ≡ false → can_reach m b (worked m bytes a b n).taken ≡ false
unfolding worked
stays_lost m bytes a b i zero l h = absurd (omega arith)
stays_lost m bytes a b i (suc n) l h =
    elim (eq-or-lt_of_le {n = i} {m = n} (omega arith)) [
      | inl e ↦ rw e at h
      | inr z ↦ more_lost m b _ _ (taken_grows m bytes b _ _ _ (worked m bytes a b n)) (stays_lost m bytes a b i n z h)
    ]
