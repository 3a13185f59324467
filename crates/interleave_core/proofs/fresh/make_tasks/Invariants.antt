use Rattle.std.proofs.Common.{◌≡◌, length}
use Rattle.interleave_core.specs.Views.{AreReady}
use Rattle.interleave_core.proofs.fresh.make_tasks.Given as goal

abbrev pub invariant-loop-t : goal.invariant-loop-t
invariant-loop-t l = record {
  count : length l.tasks.items ≡ l.t;
  ready : AreReady (record { job = l.job; places = l.tables.places }) l.t l.tasks.items;
}
