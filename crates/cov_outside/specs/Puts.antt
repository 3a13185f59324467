-- What goes to a sink by way of a buffer.
use Rattle.std.specs.Prelude.{◌≡◌, ℕ, Option, List, [], ◌++◌, Result, OnOk, OnErr}
use Rattle.std.specs.Io.KnownBytes.{Appends}
use Rattle.cov_outside.specs.Causes.{HasCause}
use Rattle.cov_outside.specs.Meaning.{AppendsSome}

-- the text was appended but for these last bytes of it
pub record AppendsUpTo (old new : Option (List ℕ)) (text left : List ℕ) : Type 0 where
  pub done : List ℕ
  pub joined : done ++ left ≡ text
  pub taken : Appends old new done

-- Of what the buffer held and the text behind it, the first part was appended and the rest is held; or a first part was
-- appended where the sink failed, which has its cause, and nothing is held. The sink is seen as in `Writes`.
pub record Puts {K T E : Type 0} (written : K → Option (List ℕ)) (faults : K → ℕ) (old new : K) (before after : List ℕ)
    (result : Result T E) (text : List ℕ) : Type 0 where
  pub whole : OnOk result (AppendsUpTo (written old) (written new) (before ++ text) after)
  pub some : OnErr result (AppendsSome (written old) (written new) (before ++ text))
  pub empty : OnErr result (after ≡ [])
  pub cause : HasCause (faults old) (faults new) result
