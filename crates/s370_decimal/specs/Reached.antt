-- What the tests of an operation's two fields tell where they pass.
use Rattle.std.specs.Prelude.{◌≡◌, ◌+◌, true}
use Rattle.cov_base.specs.Meaning.{CpuView, Memory, can_reach}
use Rattle.s370_decode.specs.Meaning.{e1, e2}
use Rattle.s370_decode.specs.declared.code.Code.{Code}
use Rattle.s370_decimal.specs.Meaning.{l1, l2}

-- both fields are accessible
pub record AreReached (m : Memory) (s : CpuView) (c : Code) : Type 0 where
  pub first : can_reach m (e1 s c) (l1 c + 1) ≡ true
  pub second : can_reach m (e2 s c) (l2 c + 1) ≡ true
