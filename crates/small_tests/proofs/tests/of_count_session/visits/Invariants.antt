use Rattle.std.proofs.Common.{◌≡◌, true, false}
use Rattle.count_session.specs.Passes.{IsPassOf, notes_of}
use Rattle.small_tests.proofs.tests.of_count_session.visits.Given as goal

abbrev pub invariant-loop : goal.invariant-loop
invariant-loop l = record {
  area : IsPassOf l.cells l.pass;
  task : (notes_of l.cells l.pass).root ≡ false;
  adds : (notes_of l.cells l.pass).adds ≡ l.counter;
  planted : (notes_of l.cells l.pass).planted l.place.0 ≡ true;
  passes : (notes_of l.cells l.pass).passes ≡ (notes_of l.cells l.initial.pass).passes;
}
