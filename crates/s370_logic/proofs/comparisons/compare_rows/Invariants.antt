use Rattle.std.proofs.Common.{◌≡◌, ◌*◌}
use Rattle.s370_logic.specs.Meaning.{compared}
use Rattle.s370_logic.proofs.comparisons.compare_rows.Given as goal

abbrev pub invariant-loop-k : goal.invariant-loop-k
invariant-loop-k g l = compared (g.P.Space.memory l._space) (g.P.Space.bytes l._space) l.fn.a l.fn.b (8 * l.k) ≡ 0

abbrev pub invariant-loop-i : goal.invariant-loop-i
invariant-loop-i g l = compared (g.P.Space.memory l._space) (g.P.Space.bytes l._space) l.fn.a l.fn.b l.i ≡ 0
