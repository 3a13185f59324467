use Rattle.std.proofs.Common.{◌≡◌}
use Rattle.s370_logic.specs.Meaning.{compared}
use Rattle.s370_logic.proofs.comparisons.compare_bytes.Given as goal

abbrev pub invariant-loop-i : goal.invariant-loop-i
invariant-loop-i g l = compared (g.P.Space.memory l.space) (g.P.Space.bytes l.space) l.a l.b l.i ≡ 0
