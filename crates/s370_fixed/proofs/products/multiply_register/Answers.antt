use Rattle.std.proofs.Common.{rules, ◌≡◌, true, sym, refl, FitsSigned}
use Rattle.std.specs.Int.{w64}
use Rattle.std.proofs.lemmas.Int.{to_z-of_z}
use Rattle.s370_state.specs.Meaning.{is_even}
use Rattle.s370_decode.specs.Meaning.{r1}
use Rattle.s370_state.proofs.Laws.{well_at_once}
use Rattle.s370_fixed.proofs.products.multiply_register.Goals as goal

pub returns : goal.returns
returns g c =
    let even : is_even (r1 c.args.it.now.code) ≡ true = search rules in
    let f : FitsSigned w64 c.signed.result = record { sfits = c.signed.type_inv } in
    record {
      memory = refl;
      effect = rw (c.multiply.ensures.cpu, c.multiply.ensures.next, to_z-of_z w64 _ f, c.signed.ensures.value, c.reg.ensures, c.args.it.now.is_first, c.args.it.now.is_second)
          (sym (well_at_once _ _ _ _ even));
    }
