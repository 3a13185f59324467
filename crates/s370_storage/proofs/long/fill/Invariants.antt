use Rattle.std.proofs.Common.{◌≡◌}
use Rattle.s370_storage.specs.Meaning.{padded_bytes}
use Rattle.s370_storage.proofs.long.fill.Given as goal

abbrev pub invariant-loop-k : goal.invariant-loop-k
invariant-loop-k g l = record {
  memory : g.P.Space.memory l.space ≡ g.P.Space.memory l.initial.space;
  bytes : g.P.Space.bytes l.space ≡ padded_bytes (g.P.Space.bytes l.initial.space) l.o l.k;
}
