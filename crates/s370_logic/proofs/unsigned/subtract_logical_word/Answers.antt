use Rattle.std.proofs.Common.{sym, refl}
use Rattle.s370_state.proofs.Laws.{passes, refuses}
use Rattle.s370_logic.proofs.unsigned.subtract_logical_word.Goals as goal

pub returns-in-Err : goal.returns-in-Err
returns-in-Err g c = record { memory = refl; effect = sym (refuses _ _ _ _ _ (rw c.second_indexed.ensures at c.in-Err.ensures.tested.refused)) }

pub returns-in-Ok : goal.returns-in-Ok
returns-in-Ok g c = record {
  memory = refl;
  effect = rw (c.subtract_unsigned.ensures.cpu, c.subtract_unsigned.ensures.next, c.in-Ok.ensures.value, c.second_indexed.ensures, c.args.it.now.is_first) (sym (passes _ _ _ _ (rw c.second_indexed.ensures at c.in-Ok.ensures.tested.passed)));
}
