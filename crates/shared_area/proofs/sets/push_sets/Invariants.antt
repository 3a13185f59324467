use Rattle.std.proofs.Common.{◌≡◌, ◌+◌, ◌*◌, length}
use Rattle.std.specs.Slots.{slots_items}
use Rattle.shared_area.specs.Sets.{AreSets}
use Rattle.shared_area.proofs.sets.push_sets.Given as goal

abbrev pub invariant-loop-p : goal.invariant-loop-p
invariant-loop-p l = (length l.sets.items + length l.plan.places ≡ l.s.0 * length l.plan.places + l.p) × AreSets l.plan (slots_items l.closed.words) l.sets.items
