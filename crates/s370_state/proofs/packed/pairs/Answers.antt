use Rattle.std.proofs.Common.{◌≡◌, ◌/◌, ◌%◌, slice_index, true, ◌&&◌, ◌∙◌, sym, arith, lit<}
use Rattle.s370_state.specs.Meaning.{is_digit}
use Rattle.s370_state.proofs.Digits.{no_digits, no_number, digits_more, number_more, digits_fail, pair_below, pair_more, pairs_fit}
use Rattle.s370_state.proofs.packed.pairs.Goals as goal

pub loop-i-init : goal.loop-i-init
loop-i-init g c = record { good = no_digits _ _ _; value = no_number _ _ _; below = lit< tt }

pub returns-then-not-is_pair-clause-bad : goal.returns-then-not-is_pair-clause-bad
returns-then-not-is_pair-clause-bad g c = digits_fail _ _ _ c.args.n c.loop-i.i (slice_index c.args.row.now c.loop-i.i) (c.requires.row.each c.loop-i.i (omega arith)) c.loop-i-test.true (sym c.is_pair.ensures ∙ c.if-not-is_pair.true)

pub overflow_mul-v : goal.overflow_mul-v
overflow_mul-v g c = let b = pairs_fit c.loop-i.i c.loop-i.v (omega arith) c.loop-i.invariant.below in omega (arith, b)

pub overflow_add-v : goal.overflow_add-v
overflow_add-v g c =
    let b = pairs_fit c.loop-i.i c.loop-i.v (omega arith) c.loop-i.invariant.below in
    let p = pair_below (slice_index c.args.row.now c.loop-i.i) (sym c.is_pair.ensures ∙ c.if-not-is_pair.false) in
    omega (arith, b, p.0, p.1, c.from.ensures)

pub loop-i-preserved : goal.loop-i-preserved
loop-i-preserved g c =
    let b = slice_index c.args.row.now c.loop-i.i in
    let e = c.requires.row.each c.loop-i.i (omega arith) in
    let pair : (is_digit (b / 16) && is_digit (b % 16)) ≡ true = sym c.is_pair.ensures ∙ c.if-not-is_pair.false in
    let p = pair_below b pair in
    record {
      good = digits_more _ _ _ c.loop-i.i b e c.loop-i.invariant.good pair;
      value = rw c.from.ensures (number_more _ _ _ c.loop-i.i b c.loop-i.v e c.loop-i.invariant.value);
      below = rw c.from.ensures (pair_more c.loop-i.i c.loop-i.v b c.loop-i.invariant.below p.0 p.1);
    }
