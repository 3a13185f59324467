use Rattle.std.proofs.Common.{◌≡◌, ◌++◌, take, drop}
use Rattle.marks_file.specs.Meaning.{unite}
use Rattle.marks_file.proofs.union.unite.Given as goal

abbrev pub invariant-loop-i : goal.invariant-loop-i
invariant-loop-i l = take l.i l.a ++ unite (drop l.i l.a) (drop l.i l.b) ≡ unite l.initial.a l.b
