use Rattle.std.proofs.Common.{arith}
use Rattle.s370_logic.proofs.Steps.{compared_decided}
use Rattle.s370_logic.proofs.comparisons.compare_bytes.Goals as goal

pub returns-then-code-ne0-clause-value : goal.returns-then-code-ne0-clause-value
returns-then-code-ne0-clause-value g c =
    compared_decided _ _ c.args.a c.args.b c.args.n c.loop-i.i _ (omega arith) c.loop-i.invariant
    (rw (← c.byte_of-first.ensures, ← c.byte_of-second.ensures, ← c.cmp.ensures) c.order_code-code.ensures.value) (omega arith)
