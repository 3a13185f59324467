use Rattle.std.proofs.Common.{sym, refl}
use Rattle.s370_state.proofs.Laws.{refuses}
use Rattle.s370_decimal.proofs.OnData.{good, bad}
use Rattle.s370_decimal.proofs.sums.zero_and_add.Goals as goal

pub returns-in-Err : goal.returns-in-Err
returns-in-Err g c = record { memory = refl; effect = sym (refuses _ _ _ _ _ c.in-Err.ensures.tested.refused) }

pub returns-in-Some : goal.returns-in-Some
returns-in-Some g c = record {
  memory = c.put_result.ensures.memory;
  effect = rw (c.put_result.ensures.cpu, c.put_result.ensures.bytes, c.put_result.ensures.next, c.keep.ensures, c.first_based-at.ensures, c.args.it.now.is_first) (sym (good _ _ _ _ _ _ _ refl c.in_default.ensures.tested.passed (rw (c.second_based.ensures, c.args.it.now.is_second) at c.in-Some.ensures.field)));
}

pub returns-in-None : goal.returns-in-None
returns-in-None g c = record { memory = refl; effect = sym (bad _ _ _ _ _ _ refl c.in_default.ensures.tested.passed (rw (c.second_based.ensures, c.args.it.now.is_second) at c.in-None.ensures.field)) }
