use Rattle.std.proofs.Common.{◌≡◌, ℕ, ◌<◌, false, get_or}
use Rattle.cov_base.specs.Meaning.{ImageView}
use Rattle.brk_table.specs.Meaning.{in_image}
use Rattle.space_map.proofs.images.image_at.Given as goal

abbrev pub invariant-loop-image : goal.invariant-loop-image
invariant-loop-image l = (k : ℕ) (d : ImageView) → k < l.image-index → in_image (get_or l.images k d) l.a ≡ false
