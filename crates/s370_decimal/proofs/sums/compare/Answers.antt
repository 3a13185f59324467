use Rattle.std.proofs.Common.{sym, refl}
use Rattle.s370_state.proofs.Laws.{refuses}
use Rattle.s370_decimal.proofs.OnData.{good, bad}
use Rattle.s370_decimal.proofs.sums.compare.Goals as goal

pub returns-in-Err : goal.returns-in-Err
returns-in-Err g c = record { memory = refl; effect = sym (refuses _ _ _ _ _ c.in-Err.ensures.tested.refused) }

pub returns-in-Some : goal.returns-in-Some
returns-in-Some g c = record {
  memory = refl;
  effect = rw (c.set_cc.ensures, c.comparison.ensures.value) (sym (good _ _ _ _ _ _ _ refl c.in_default.ensures.tested.passed c.in-Some.ensures.operands));
}

pub returns-in-None : goal.returns-in-None
returns-in-None g c = record { memory = refl; effect = sym (bad _ _ _ _ _ _ refl c.in_default.ensures.tested.passed c.in-None.ensures.operands) }
