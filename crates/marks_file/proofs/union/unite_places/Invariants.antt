use Rattle.std.proofs.Common.{◌≡◌, ◌++◌, take, drop}
use Rattle.marks_file.specs.Meaning.{unite_places}
use Rattle.marks_file.proofs.union.unite_places.Given as goal

abbrev pub invariant-loop-i : goal.invariant-loop-i
invariant-loop-i l = take l.i l.a ++ unite_places (drop l.i l.a) (drop l.i l.b) ≡ unite_places l.initial.a l.b
