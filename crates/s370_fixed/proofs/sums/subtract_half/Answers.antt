use Rattle.std.proofs.Common.{rules, sym, refl, FitsSigned}
use Rattle.std.specs.Int.{w64}
use Rattle.std.proofs.lemmas.Int.{to_z-of_z}
use Rattle.s370_state.proofs.Laws.{passes, refuses}
use Rattle.s370_fixed.proofs.sums.subtract_half.Goals as goal

pub returns-in-Err : goal.returns-in-Err
returns-in-Err g c = record { memory = refl; effect = sym (refuses _ _ _ _ _ (rw c.second_indexed.ensures at c.in-Err.ensures.tested.refused)) }

pub returns-in-Ok : goal.returns-in-Ok
returns-in-Ok g c =
    let f : FitsSigned w64 c.in-Ok.z = search rules in
    record {
      memory = refl;
      effect = rw (c.subtract.ensures.cpu, c.subtract.ensures.next, to_z-of_z w64 _ f, c.in-Ok.ensures.value, c.second_indexed.ensures, c.args.it.now.is_first) (sym (passes _ _ _ _ (rw c.second_indexed.ensures at c.in-Ok.ensures.tested.passed)));
    }
