use Rattle.std.proofs.Common.{◌≡◌, None}
use Rattle.s370_storage.specs.Meaning.{unequal}
use Rattle.s370_storage.proofs.long.unequal.Given as goal

abbrev pub invariant-loop-i : goal.invariant-loop-i
invariant-loop-i g l = unequal (g.P.Space.memory l.space) (g.P.Space.bytes l.space) l.o l.i ≡ None
