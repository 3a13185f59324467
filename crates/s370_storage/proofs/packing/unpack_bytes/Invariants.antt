use Rattle.std.proofs.Common.{◌≡◌}
use Rattle.s370_storage.specs.Meaning.{unpacked}
use Rattle.s370_storage.proofs.packing.unpack_bytes.Given as goal

abbrev pub invariant-loop-j : goal.invariant-loop-j
invariant-loop-j g l = record {
  memory : g.P.Space.memory l.space ≡ g.P.Space.memory l.fn.space;
  bytes : g.P.Space.bytes l.space ≡ unpacked (g.P.Space.memory l.fn.space) (g.P.Space.bytes l.fn.space) l.o l.j;
}
