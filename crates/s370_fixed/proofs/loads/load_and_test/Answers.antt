use Rattle.std.proofs.Common.{sym, refl, FitsSigned}
use Rattle.std.specs.Int.{w64, w128}
use Rattle.std.proofs.lemmas.Int.{to_z-of_z}
use Rattle.s370_state.proofs.Laws.{at_once}
use Rattle.s370_fixed.proofs.loads.load_and_test.Goals as goal

pub returns : goal.returns
returns g c =
    let f : FitsSigned w64 c.signed.result = record { sfits = c.signed.type_inv } in
    let h : FitsSigned w128 c.from.result = record { sfits = c.from.type_inv } in
    record {
      memory = refl;
      effect = rw (c.set_cc.ensures, c.set_reg.ensures, c.sign_code.ensures.value, to_z-of_z w128 _ h, c.from.ensures, to_z-of_z w64 _ f, c.signed.ensures.value, c.reg-v.ensures, c.args.it.now.is_first, c.args.it.now.is_second) (sym (at_once _ _ _));
    }
