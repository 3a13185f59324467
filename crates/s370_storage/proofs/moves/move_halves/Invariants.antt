use Rattle.std.proofs.Common.{◌≡◌}
use Rattle.s370_storage.specs.Meaning.{moved}
use Rattle.s370_storage.proofs.moves.move_halves.Given as goal

abbrev pub invariant-loop-i : goal.invariant-loop-i
invariant-loop-i g l = record {
  memory : g.P.Space.memory l.space ≡ g.P.Space.memory l.initial.space;
  bytes : g.P.Space.bytes l.space ≡ moved l.part (g.P.Space.memory l.initial.space) (g.P.Space.bytes l.initial.space) l.a l.b l.i;
}
