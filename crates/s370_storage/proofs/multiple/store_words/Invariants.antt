use Rattle.std.proofs.Common.{◌≡◌}
use Rattle.s370_storage.specs.Meaning.{stored}
use Rattle.s370_storage.proofs.multiple.store_words.Given as goal

abbrev pub invariant-loop-i : goal.invariant-loop-i
invariant-loop-i g l = record {
  memory : g.P.Space.memory l.space ≡ g.P.Space.memory l.initial.space;
  bytes : g.P.Space.bytes l.space ≡ stored (g.P.Space.bytes l.initial.space) l.cpu.regs l.r l.at l.i;
}
