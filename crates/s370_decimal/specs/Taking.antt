-- The working of a pattern over a source whose bytes may not all be reached.
use Rattle.std.specs.Prelude.{◌≡◌, ℕ, ◌+◌, ◌<◌, ◌≤◌, Bool, true, false, Option, IfSome, IfNone, List}
use Rattle.cov_base.specs.Meaning.{Memory, can_reach}
use Rattle.s370_decimal.specs.Meaning.{next_digit, digit_selected, pattern_stepped, worked}
use Rattle.s370_decimal.specs.declared.working.Digit.{Digit}
use Rattle.s370_decimal.specs.declared.working.Working.{Working}
use Rattle.s370_decimal.specs.declared.working.PatternStep.{PatternStep}

-- It comes from the source from b on, or none comes, where a byte isn't reached of those that it has taken then.
pub record Takes {A : Type 0} (m : Memory) (bytes : List ℕ) (b : ℕ) (taken : A → ℕ) (it : Memory → List ℕ → ℕ → A)
    (answer : Option A) : Type 0 where
  pub value : IfSome answer (λ x. x ≡ it m bytes b)
  pub none : IfNone answer (can_reach m b (taken (it m bytes b)) ≡ false)

-- A digit can be taken: fewer than 256 source bytes were read, all of them accessible, and what waits is a half byte.
pub record CanTake (m : Memory) (b : ℕ) (w : Working) : Type 0 where
  pub taken : w.taken < 256
  pub waits : IfSome w.right (λ d. d < 16)
  pub reach : can_reach m b w.taken ≡ true

-- so many bytes were read behind those of a working, one at most, all of them accessible, and what waits now is a half byte
pub record IsTaken (m : Memory) (b : ℕ) (w : Working) (taken : ℕ) (right : Option ℕ) : Type 0 where
  pub most : taken ≤ w.taken + 1
  pub waits : IfSome right (λ d. d < 16)
  pub reach : can_reach m b taken ≡ true

abbrev pub digit_taken : Digit → ℕ
digit_taken d = d.taken

abbrev pub step_taken : PatternStep → ℕ
step_taken s = s.working.taken

abbrev pub working_taken : Working → ℕ
working_taken w = w.taken

-- the next digit after a working
abbrev pub digit_after : Working → Memory → List ℕ → ℕ → Digit
digit_after w m bytes b = next_digit m bytes b w

-- the step of a digit selector, or a significance starter, at an address
abbrev pub digit_step : Working → Bool → ℕ → ℕ → Memory → List ℕ → ℕ → PatternStep
digit_step w starts fill at m bytes b = digit_selected w (next_digit m bytes b w) starts fill at

-- the step of the pattern byte p at an address
abbrev pub byte_step : Working → ℕ → ℕ → ℕ → Memory → List ℕ → ℕ → PatternStep
byte_step w fill p at m bytes b = pattern_stepped m bytes b fill p at w

-- the working after n pattern bytes from a on
abbrev pub working_of : ℕ → ℕ → Memory → List ℕ → ℕ → Working
working_of a n m bytes b = worked m bytes a b n
