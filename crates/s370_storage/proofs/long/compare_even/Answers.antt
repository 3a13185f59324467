use Rattle.std.proofs.Common.{sym, refl, ◌∙◌}
use Rattle.s370_state.proofs.Laws.{well_passes, well_refuses}
use Rattle.s370_storage.proofs.long.compare_even.Goals as goal

pub returns-in-Err : goal.returns-in-Err
returns-in-Err g c = record { memory = refl; effect = sym (well_refuses _ _ _ _ _ _ c.requires.even (rw c.long_of-o.ensures.operands at c.in-Err.ensures.tested.refused)) }

pub returns : goal.returns
returns g c = record {
  memory = c.set_compared.ensures.memory;
  effect = (rw (c.unequal-unequal.ensures, c.long_of-o.ensures.operands) at c.set_compared.ensures.effect)
      ∙ sym (well_passes _ _ _ _ _ c.requires.even (rw c.long_of-o.ensures.operands at c.in_default.ensures.tested.passed));
}
