use Rattle.std.proofs.Common.{sym, refl, add-zero}
use Rattle.s370_state.proofs.Laws.{passes, refuses}
use Rattle.s370_fixed.proofs.loads.store_word.Goals as goal

pub returns-in-Err : goal.returns-in-Err
returns-in-Err g c = record { memory = refl; effect = sym (refuses _ _ _ _ _ (rw c.second_indexed-at.ensures at c.in-Err.ensures.tested.refused)) }

pub returns : goal.returns
returns g c = record {
  memory = c.put_word.ensures.memory;
  effect = rw (c.put_word.ensures.bytes, add-zero, c.reg.ensures, c.second_indexed-at.ensures, c.args.it.now.is_first)
      (sym (passes _ _ _ _ (rw c.second_indexed-at.ensures at c.in_default.ensures.tested.passed)));
}
