use Rattle.session_marks.specs.Meaning.{marked_places}
use Rattle.std.proofs.Common.{◌≡◌, ◌-◌}
use Rattle.session_marks.specs.Fields.{AreHalfwords}
use Rattle.session_marks.proofs.marking.marked_places.Given as goal

abbrev pub invariant-loop-n : goal.invariant-loop-n
invariant-loop-n g l = record {
  items : l.places.items ≡ marked_places l.base l.tables.places (g.R.FactSets.set_of l.sets l.s.0) l.first (l.n - l.first);
  halfwords : AreHalfwords l.places.items;
}
