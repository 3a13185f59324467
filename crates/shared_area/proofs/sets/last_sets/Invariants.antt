use Rattle.std.proofs.Common.{◌≡◌, ◌*◌, length}
use Rattle.std.specs.Slots.{slots_items}
use Rattle.shared_area.specs.Sets.{AreSets}
use Rattle.shared_area.proofs.sets.last_sets.Given as goal

abbrev pub invariant-loop-s : goal.invariant-loop-s
invariant-loop-s l = (length l.sets.items ≡ l.s * length l.plan.places) × AreSets l.plan (slots_items l.closed.words) l.sets.items
