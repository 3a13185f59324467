use Rattle.std.proofs.Common.{◌≡◌}
use Rattle.s370_storage.specs.Meaning.{loaded}
use Rattle.s370_storage.proofs.multiple.load_words.Given as goal

abbrev pub invariant-loop-i : goal.invariant-loop-i
invariant-loop-i g l = l.cpu ≡ record l.initial.cpu { regs = loaded (g.P.Space.memory l.space) (g.P.Space.bytes l.space) l.initial.cpu.regs l.r l.at l.i }
