use Rattle.std.proofs.Common.{sym, refl, FitsSigned}
use Rattle.std.specs.Int.{w64}
use Rattle.std.proofs.lemmas.Int.{to_z-of_z}
use Rattle.s370_state.proofs.Laws.{at_once}
use Rattle.s370_fixed.proofs.sums.add_register.Goals as goal

pub returns : goal.returns
returns g c =
    let f : FitsSigned w64 c.signed.result = record { sfits = c.signed.type_inv } in
    record {
      memory = refl;
      effect = rw (c.add.ensures.cpu, c.add.ensures.next, to_z-of_z w64 _ f, c.signed.ensures.value, c.reg.ensures, c.args.it.now.is_first, c.args.it.now.is_second) (sym (at_once _ _ _));
    }
