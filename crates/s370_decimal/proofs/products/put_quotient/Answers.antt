use Rattle.std.proofs.Common.{◌+◌, arith}
use Rattle.s370_state.proofs.Laws.{store_prefix, store_part}
use Rattle.s370_decimal.specs.Meaning.{l1}
use Rattle.s370_decimal.proofs.products.put_quotient.Goals as goal

pub put_field-requires : goal.put_field-requires
put_field-requires g c = record {
  length = omega (arith, c.args.it.now.first_register);
  store = rw c.first_based-at.ensures (store_prefix _ _ (l1 c.args.it.now.code + 1) _ c.requires.store (omega (arith, c.args.it.now.is_first, c.args.it.now.is_second, c.requires.shorter)));
}

pub put_field-requires-2 : goal.put_field-requires-2
put_field-requires-2 g c = record {
  length = omega (arith, c.args.it.now.second_register);
  store = rw c.put_field.ensures.memory
      (store_part _ _ (l1 c.args.it.now.code + 1) c.from.result c.plus-right.result _ c.requires.store
      (omega (arith, c.from.ensures, c.args.it.now.is_first, c.args.it.now.is_second, c.requires.shorter)) (rw c.first_based-at.ensures at c.plus-right.ensures));
}
