-- What was written to a sink.
use Rattle.std.specs.Prelude.{ℕ, Option, List, Result, OnOk, OnErr}
use Rattle.std.specs.Io.KnownBytes.{Appends}
use Rattle.cov_outside.specs.Causes.{HasCause}
use Rattle.cov_outside.specs.Meaning.{AppendsSome}

-- The text was appended whole, or its first bytes where the sink failed, which has its cause: by the bytes that a sink tells
-- and its count of faults, on the sink as it was before and as it is after.
pub record Writes {K T E : Type 0} (written : K → Option (List ℕ)) (faults : K → ℕ) (old new : K) (result : Result T E)
    (text : List ℕ) : Type 0 where
  pub whole : OnOk result (Appends (written old) (written new) text)
  pub some : OnErr result (AppendsSome (written old) (written new) text)
  pub cause : HasCause (faults old) (faults new) result
