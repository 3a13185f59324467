use Rattle.std.proofs.Common.{◌≡◌, drop}
use Rattle.task_ends.specs.Meaning.{place_words}
use Rattle.task_ends.proofs.text.add_place.Given as goal

abbrev pub invariant-loop-image : goal.invariant-loop-image
invariant-loop-image l = record {
  same : l.line.items ≡ l.initial.line.items;
  left : place_words l.private l.at (drop l.image-index l.images) ≡ place_words l.private l.at l.images;
}
