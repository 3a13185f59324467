use Rattle.std.proofs.Common.{arith, refl, sym}
use Rattle.s370_decode.specs.Mnemonics.{backward}
use Rattle.s370_decode.proofs.Words.{small_power, word_more, power_more}
use Rattle.s370_decode.proofs.mnemonics.word_number.Goals as goal

pub overflow_mul-n : goal.overflow_mul-n
overflow_mul-n c = let p = small_power c.loop-b.b-index (omega arith) in omega (arith, p, c.loop-b.invariant.below)

pub loop-b-init : goal.loop-b-init
unfolding backward
loop-b-init c = record { number = refl; below = omega arith }

pub loop-b-preserved : goal.loop-b-preserved
loop-b-preserved c =
    let byte = (c.type_inv.word c.loop-b.b-index).fits in
    record {
      number = rw (word_more c.args.word.now c.loop-b.b-index c.from.result c.loop-b-test.true (sym c.from.ensures), ← c.loop-b.invariant.number) refl;
      below = power_more c.loop-b.b-index c.loop-b.n c.from.result c.loop-b.invariant.below (rw c.from.ensures byte);
    }
