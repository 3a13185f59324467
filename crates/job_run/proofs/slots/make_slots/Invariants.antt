use Rattle.std.proofs.Common.{◌≡◌, ℕ, ◌<◌, length, get_or}
use Rattle.job_run.specs.Slots.{AreEmpty}
use Rattle.job_run.specs.Tasks.{HasNotRun}
use Rattle.job_run.specs.declared.slots.Slot.{Slot}
use Rattle.job_run.proofs.slots.make_slots.Given as goal

abbrev pub invariant-loop-t : goal.invariant-loop-t
invariant-loop-t g l = record {
  count : length l.slots.items ≡ l.t;
  begun : (k : ℕ) (d : Slot _ _) → k < length l.slots.items → HasNotRun l.job l.tables.places k (get_or l.slots.items k d).done;
  empty : AreEmpty l.slots.items;
}
