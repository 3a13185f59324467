use Rattle.std.proofs.Common.{arith}
use Rattle.s370_logic.proofs.Masks.{bytes_fit, byte_last}
use Rattle.s370_logic.proofs.masked.+inserted.Goals as goal

pub overflow_mul-result : goal.overflow_mul-result
overflow_mul-result t c = let b = bytes_fit c.args.k _ c.requires c.inserted.ensures.below in omega (arith, b)

pub overflow_add-result : goal.overflow_add-result
overflow_add-result t c = let b = bytes_fit c.args.k _ c.requires c.inserted.ensures.below in omega (arith, b)

pub overflow_mul-result-else-mask-eq1 : goal.overflow_mul-result-else-mask-eq1
overflow_mul-result-else-mask-eq1 t c = let b = bytes_fit c.args.k _ c.requires c.inserted-else-mask-eq1.ensures.below in omega (arith, b)

pub overflow_add-result-else-mask-eq1 : goal.overflow_add-result-else-mask-eq1
overflow_add-result-else-mask-eq1 t c = let b = bytes_fit c.args.k _ c.requires c.inserted-else-mask-eq1.ensures.below in omega (arith, b)

pub returns-then-mask-eq1-clause-below : goal.returns-then-mask-eq1-clause-below
returns-then-mask-eq1-clause-below t c = byte_last c.args.k _ _ (omega arith) c.inserted.ensures.below (omega arith)

pub returns-else-mask-eq1-clause-below : goal.returns-else-mask-eq1-clause-below
returns-else-mask-eq1-clause-below t c = byte_last c.args.k _ _ (omega arith) c.inserted-else-mask-eq1.ensures.below (omega arith)
