use Rattle.std.proofs.Common.{◌≡◌, ◌+◌, ◌++◌, take, drop}
use Rattle.session_marks.specs.Filled.{with_sets}
use Rattle.session_marks.proofs.filling.fill_places.Given as goal

abbrev pub invariant-loop-i : goal.invariant-loop-i
invariant-loop-i g l = take l.i l.places ++ with_sets (g.R.FactSets.set_of l.sets l.s.0) (l.first + l.i) (drop l.i l.places) ≡ with_sets (g.R.FactSets.set_of l.sets l.s.0) l.first l.initial.places
