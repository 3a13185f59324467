use Rattle.std.proofs.Common.{◌-◌, ◌∙◌, arith, length-set}
use Rattle.annotator.proofs.DigitLemmas.{hex_put}
use Rattle.annotator.proofs.text.add_hex.Goals as goal

pub loop-at-preserved : goal.loop-at-preserved
loop-at-preserved c =
    let l = c.loop-at in
    record {
      above = omega arith;
      within = omega arith;
      size = length-set l.out (l.at - 1) c.hex_digit.result ∙ l.invariant.size;
      digits = rw c.hex_digit.ensures (hex_put l.at (8 - c.args.digits) l.rest l.out _ c.loop-at-test.true (omega (arith, l.invariant.size, l.invariant.within)) l.invariant.digits);
    }
