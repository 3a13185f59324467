-- When a fault may be told.
use Rattle.std.specs.Prelude.{ℕ, ◌≤◌, Result, OnErr}
use Rattle.cov_outside.specs.Meaning.{Rose}

-- a fault is told only where the count rose, and the count never falls
pub record HasCause {T E : Type 0} (before now : ℕ) (result : Result T E) : Type 0 where
  pub later : before ≤ now
  pub failed : OnErr result (Rose before now)
