use Rattle.std.proofs.Common.{◌≡◌, ◌++◌, take, drop}
use Rattle.session_marks.specs.Filled.{AreThere, filled}
use Rattle.session_marks.proofs.filling.fill_modules.Given as goal

abbrev pub invariant-loop-i : goal.invariant-loop-i
invariant-loop-i g l =
    (take l.i l.marked ++ filled l.tables (g.R.FactSets.set_of l.sets l.s.0) (drop l.i l.marked) (drop l.i l.modules) ≡ filled l.tables (g.R.FactSets.set_of l.sets l.s.0) l.initial.marked l.modules)
    × AreThere l.tables (drop l.i l.marked) (drop l.i l.modules)
