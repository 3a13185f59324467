use Rattle.std.proofs.Common.{sym, refl, ◌∙◌}
use Rattle.s370_state.proofs.Laws.{passes, refuses}
use Rattle.s370_storage.proofs.translate.translate_and_test.Goals as goal

pub returns-in-Err : goal.returns-in-Err
returns-in-Err g c = record { memory = refl; effect = sym (refuses _ _ _ _ _ (rw (c.first_based-a.ensures, c.second_based-t.ensures, c.from-n.ensures, c.i2.ensures) at c.in-Err.ensures.tested.refused)) }

pub returns-in-Ok : goal.returns-in-Ok
returns-in-Ok g c = record {
  memory = c.set_found.ensures.memory;
  effect = (rw (c.in-Ok.ensures.selected, c.first_based-a.ensures, c.second_based-t.ensures, c.from-n.ensures, c.i2.ensures) at c.set_found.ensures.effect) ∙ sym (passes _ _ _ _ (rw (c.first_based-a.ensures, c.second_based-t.ensures, c.from-n.ensures, c.i2.ensures) at c.in-Ok.ensures.tested.passed));
}
