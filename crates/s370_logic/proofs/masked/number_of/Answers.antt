use Rattle.std.proofs.Common.{arith}
use Rattle.s370_logic.proofs.Masks.{number_more, byte_fits, byte_more}
use Rattle.s370_logic.proofs.masked.number_of.Goals as goal

pub overflow_mul-v : goal.overflow_mul-v
overflow_mul-v g c = let b = byte_fits _ _ (omega arith) c.loop-i.invariant.below in omega (arith, b)

pub overflow_add-v : goal.overflow_add-v
overflow_add-v g c = let b = byte_fits _ _ (omega arith) c.loop-i.invariant.below in omega (arith, b)

pub loop-i-preserved : goal.loop-i-preserved
loop-i-preserved g c = record {
  value = rw (number_more, ← c.byte_of.ensures, ← c.loop-i.invariant.value) (omega (arith, c.from.ensures));
  below = byte_more _ _ _ c.loop-i.invariant.below (omega arith);
}
