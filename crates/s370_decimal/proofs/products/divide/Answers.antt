use Rattle.std.proofs.Common.{sym, refl, ◌∙◌}
use Rattle.s370_state.proofs.Laws.{well_refuses}
use Rattle.s370_decimal.proofs.OnData.{good, bad}
use Rattle.s370_decimal.proofs.products.divide.Goals as goal

pub returns-in-Err : goal.returns-in-Err
returns-in-Err g c = record { memory = refl; effect = sym (well_refuses _ _ _ _ _ _ (sym c.is_shorter.ensures ∙ c.if-not-is_shorter.false) c.in-Err.ensures.tested.refused) }

pub returns-in-Some : goal.returns-in-Some
returns-in-Some g c = record {
  memory = c.put_quotient.ensures.memory;
  effect = c.put_quotient.ensures.effect ∙ sym (good _ _ _ _ _ _ _ (sym c.is_shorter.ensures ∙ c.if-not-is_shorter.false) c.in_default.ensures.tested.passed c.in-Some.ensures.operands);
}

pub returns-in-None : goal.returns-in-None
returns-in-None g c = record { memory = refl; effect = sym (bad _ _ _ _ _ _ (sym c.is_shorter.ensures ∙ c.if-not-is_shorter.false) c.in_default.ensures.tested.passed c.in-None.ensures.operands) }
