use Rattle.std.proofs.Common.{◌≡◌}
use Rattle.s370_storage.specs.Meaning.{packed}
use Rattle.s370_storage.proofs.packing.pack_bytes.Given as goal

abbrev pub invariant-loop-k : goal.invariant-loop-k
invariant-loop-k g l = record {
  memory : g.P.Space.memory l.space ≡ g.P.Space.memory l.fn.space;
  bytes : g.P.Space.bytes l.space ≡ packed (g.P.Space.memory l.fn.space) (g.P.Space.bytes l.fn.space) l.o l.k;
}
