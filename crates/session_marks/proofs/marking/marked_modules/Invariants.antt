use Rattle.std.proofs.Common.{◌≡◌, map, take, All}
use Rattle.session_marks.specs.Fields.{HasGoodFields}
use Rattle.session_marks.specs.Meaning.{marked_module}
use Rattle.session_marks.proofs.marking.marked_modules.Given as goal

abbrev pub invariant-loop-m : goal.invariant-loop-m
invariant-loop-m g l = record {
  items : l.marked.items ≡ map (marked_module l.job l.tables (g.R.FactSets.set_of l.sets l.s.0)) (take l.m-index l.modules);
  fields : All HasGoodFields l.marked.items;
}
