use Rattle.std.proofs.Common.{sym, refl}
use Rattle.s370_state.proofs.Laws.{passes, refuses}
use Rattle.s370_logic.proofs.bitwise.join_fields.Goals as goal

pub returns-in-Err : goal.returns-in-Err
returns-in-Err g c = record { memory = refl; effect = sym (refuses _ _ _ _ _ (rw (c.first_based-a.ensures, c.second_based-b.ensures, c.from-n.ensures, c.i2.ensures) at c.in-Err.ensures.tested.refused)) }

pub returns : goal.returns
returns g c = record {
  memory = c.join_bytes.ensures.memory;
  effect = rw (c.set_cc.ensures, c.zero_code.ensures.value, c.join_bytes.ensures.bytes, c.join_bytes.ensures.zero, c.first_based-a.ensures, c.second_based-b.ensures, c.from-n.ensures, c.i2.ensures) (sym (passes _ _ _ _ (rw (c.first_based-a.ensures, c.second_based-b.ensures, c.from-n.ensures, c.i2.ensures) at c.in_default.ensures.tested.passed)));
}
