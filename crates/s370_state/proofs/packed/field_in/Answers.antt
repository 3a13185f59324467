use Rattle.std.proofs.Common.{◌∙◌, slice_index, sym, arith}
use Rattle.s370_state.proofs.Digits.{pairs_most, last_digit, field_good, field_pairs_bad, field_last_bad}
use Rattle.s370_state.proofs.packed.field_in.Goals as goal

pub overflow_mul-result : goal.overflow_mul-result
overflow_mul-result g c = let b = pairs_most c.args.l c.in-Some.high c.requires.length (rw c.from-n.ensures at c.in-Some.ensures.below) in omega (arith, b)

pub overflow_add-result : goal.overflow_add-result
overflow_add-result g c =
    let b = pairs_most c.args.l c.in-Some.high c.requires.length (rw c.from-n.ensures at c.in-Some.ensures.below) in
    let d = last_digit (slice_index c.args.row.now c.args.l) (rw c.from.ensures at (sym c.is_last.ensures ∙ c.if-is_last.true)) in
    omega (arith, b, d, rw c.from.ensures at c.from-then-is_last.ensures)

pub returns-then-is_last : goal.returns-then-is_last
returns-then-is_last g c =
    rw (c.from-then-is_last.ensures, c.is_minus.ensures, c.from.ensures)
    (field_good _ _ _ c.args.l (slice_index c.args.row.now c.args.l) c.in-Some.high (c.requires.row.each c.args.l (omega arith)) (rw c.from-n.ensures at c.in-Some.ensures.good) (rw c.from-n.ensures at c.in-Some.ensures.value) (rw c.from.ensures at (sym c.is_last.ensures ∙ c.if-is_last.true)))

pub returns-else-is_last : goal.returns-else-is_last
returns-else-is_last g c =
    field_last_bad _ _ _ c.args.l (slice_index c.args.row.now c.args.l) (c.requires.row.each c.args.l (omega arith)) (rw c.from-n.ensures at c.in-Some.ensures.good) (rw c.from.ensures at (sym c.is_last.ensures ∙ c.if-is_last.false))

pub returns-in-None : goal.returns-in-None
returns-in-None g c = field_pairs_bad _ _ _ c.args.l (rw c.from-n.ensures at c.in-None.ensures.bad)
