use Rattle.std.proofs.Common.{◌≡◌, ◌∙◌, ◌+◌, ◌*◌, sym, arith}
use Rattle.s370_logic.proofs.Steps.{compared_more, compared_decided, equal_code, unequal_code, row_compared, compared_far}
use Rattle.s370_logic.proofs.comparisons.compare_rows.Goals as goal

pub returns-then-first-second-clause-value : goal.returns-then-first-second-clause-value
returns-then-first-second-clause-value g c =
    let m = g.P.Space.memory c.args._space.now in
    let bytes = g.P.Space.bytes c.args._space.now in
    let k = 8 * c.loop-k.k in
    let x = c.doubleword-first.ensures in
    let y = c.doubleword-second.ensures in
    let row = row_compared m bytes c.args.x.now c.args.y.now c.args.a c.args.b c.args.n k 8 c.requires.first c.requires.second (omega arith) x.bytes y.bytes c.loop-k.invariant in
    c.order_code.ensures.value ∙ rw (c.cmp.ensures, x.number, y.number) (sym row)
    ∙ sym (compared_far m bytes c.args.a c.args.b (k + 8) c.args.n (rw row (unequal_code _ _ (rw (x.number, y.number) at c.if-first-second.true))) (omega arith))

pub loop-k-preserved : goal.loop-k-preserved
loop-k-preserved g c =
    let m = g.P.Space.memory c.args._space.now in
    let bytes = g.P.Space.bytes c.args._space.now in
    let k = 8 * c.loop-k.k in
    let x = c.doubleword-first.ensures in
    let y = c.doubleword-second.ensures in
    let next : 8 * (c.loop-k.k + 1) ≡ k + 8 = omega arith in
    rw next (row_compared m bytes c.args.x.now c.args.y.now c.args.a c.args.b c.args.n k 8 c.requires.first c.requires.second (omega arith) x.bytes y.bytes c.loop-k.invariant
    ∙ equal_code _ _ (sym x.number ∙ c.if-first-second.false ∙ y.number))

pub returns-then-x-i-clause-value : goal.returns-then-x-i-clause-value
returns-then-x-i-clause-value g c =
    compared_decided _ _ c.args.a c.args.b c.args.n c.loop-i.i _ (omega arith) c.loop-i.invariant
    (rw (← c.requires.first.each c.loop-i.i (omega arith), ← c.requires.second.each c.loop-i.i (omega arith), ← c.cmp-then-x-i.ensures) c.order_code-then-x-i.ensures.value)
    (rw (c.order_code-then-x-i.ensures.value, c.cmp-then-x-i.ensures) (unequal_code _ _ c.if-x-i.true))

pub loop-i-preserved : goal.loop-i-preserved
loop-i-preserved g c =
    compared_more _ _ c.args.a c.args.b c.loop-i.i c.loop-i.invariant
    ∙ rw (← c.requires.first.each c.loop-i.i (omega arith), ← c.requires.second.each c.loop-i.i (omega arith)) (equal_code _ _ c.if-x-i.false)
