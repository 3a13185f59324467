use Rattle.std.proofs.Common.{◌≡◌}
use Rattle.s370_storage.specs.Meaning.{loaded}
use Rattle.s370_storage.proofs.multiple.load_row.Given as goal

abbrev pub invariant-loop-i : goal.invariant-loop-i
invariant-loop-i g l = l.cpu ≡ record l.initial.cpu { regs = loaded (g.P.Space.memory l._space) (g.P.Space.bytes l._space) l.initial.cpu.regs l.r l.fn.at l.i }
