use Rattle.std.proofs.Common.{◌≡◌}
use Rattle.s370_logic.specs.Meaning.{bytes_joined, are_zero}
use Rattle.s370_logic.specs.Bitwise.{connected}
use Rattle.s370_logic.proofs.bitwise.join_bytes.Given as goal

abbrev pub invariant-loop-i : goal.invariant-loop-i
invariant-loop-i g l = record {
  memory : g.P.Space.memory l.space ≡ g.P.Space.memory l.initial.space;
  bytes : g.P.Space.bytes l.space ≡ bytes_joined (connected l.f) (g.P.Space.memory l.initial.space) (g.P.Space.bytes l.initial.space) l.a l.b l.i;
  zero : l.is_zero ≡ are_zero (connected l.f) (g.P.Space.memory l.initial.space) (g.P.Space.bytes l.initial.space) l.a l.b l.i;
}
