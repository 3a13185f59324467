use Rattle.std.proofs.Common.{◌≡◌, length}
use Rattle.std.specs.Slots.{slots_items}
use Rattle.count_session.specs.Tallied.{AreRead}
use Rattle.count_session.proofs.counts.last_counts.Given as goal

abbrev pub invariant-loop-p : goal.invariant-loop-p
invariant-loop-p l = (length l.places.items ≡ l.p) × AreRead l.plan (slots_items l.closed.words) l.places.items
