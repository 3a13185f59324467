use Rattle.std.proofs.Common.{◌≡◌, ◌<◌}
use Rattle.s370_storage.specs.Meaning.{shifted}
use Rattle.s370_storage.proofs.packing.shift_bytes.Given as goal

abbrev pub invariant-loop-k : goal.invariant-loop-k
invariant-loop-k g l = record {
  memory : g.P.Space.memory l.space ≡ g.P.Space.memory l.fn.space;
  bytes : g.P.Space.bytes l.space ≡ (shifted (g.P.Space.memory l.fn.space) (g.P.Space.bytes l.fn.space) l.o l.k).bytes;
  half : l.half ≡ (shifted (g.P.Space.memory l.fn.space) (g.P.Space.bytes l.fn.space) l.o l.k).half;
  below : l.half < 16;
}
