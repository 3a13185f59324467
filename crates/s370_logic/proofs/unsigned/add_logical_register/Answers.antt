use Rattle.std.proofs.Common.{sym, refl}
use Rattle.s370_state.proofs.Laws.{at_once}
use Rattle.s370_logic.proofs.unsigned.add_logical_register.Goals as goal

pub returns : goal.returns
returns g c = record {
  memory = refl;
  effect = rw (c.add_unsigned.ensures.cpu, c.add_unsigned.ensures.next, c.reg.ensures, c.args.it.now.is_first, c.args.it.now.is_second) (sym (at_once _ _ _));
}
