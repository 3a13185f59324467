use Rattle.std.proofs.Common.{rules, ◌≡◌, true, sym, refl, FitsSigned}
use Rattle.std.specs.Int.{w64}
use Rattle.std.proofs.lemmas.Int.{to_z-of_z}
use Rattle.s370_state.specs.Meaning.{is_even}
use Rattle.s370_decode.specs.Meaning.{r1}
use Rattle.s370_state.proofs.Laws.{well_passes, well_refuses}
use Rattle.s370_fixed.proofs.products.multiply_word.Goals as goal

pub returns-in-Err : goal.returns-in-Err
returns-in-Err g c =
    let even : is_even (r1 c.args.it.now.code) ≡ true = search rules in
    record { memory = refl; effect = sym (well_refuses _ _ _ _ _ _ even (rw c.second_indexed.ensures at c.in-Err.ensures.tested.refused)) }

pub returns-in-Ok : goal.returns-in-Ok
returns-in-Ok g c =
    let even : is_even (r1 c.args.it.now.code) ≡ true = search rules in
    let f : FitsSigned w64 c.signed.result = record { sfits = c.signed.type_inv } in
    record {
      memory = refl;
      effect = rw (c.multiply.ensures.cpu, c.multiply.ensures.next, to_z-of_z w64 _ f, c.signed.ensures.value, c.in-Ok.ensures.value, c.second_indexed.ensures, c.args.it.now.is_first)
          (sym (well_passes _ _ _ _ _ even (rw c.second_indexed.ensures at c.in-Ok.ensures.tested.passed)));
    }
