use Rattle.std.proofs.Common.{◌≡◌, true, length, refl}
use Rattle.cov_base.specs.Meaning.{can_reach}
use Rattle.brk_table.specs.Meaning.{memory_of}
use Rattle.space_map.proofs.SpaceLemmas.{reach_listed}
use Rattle.space_map.proofs.space.TaskSpace.is_reached.Goals as goal

pub returns-then-is_in_one_image : goal.returns-then-is_in_one_image
returns-then-is_in_one_image c =
    let s = c.self.inside in
    let all = rw c.get.ensures.value at (c.if-is_in_one_image.ensures.all refl) in
    let below = rw c.get.ensures.value at (c.if-is_in_one_image.ensures.below refl) in
    let h : can_reach (memory_of (length s.bytes.items) s.images.now s.tables.now.places) c.args.at c.args.len ≡ true = reach_listed (length s.bytes.items) s.images.now s.tables.now.places c.args.at c.args.len all below in
    rw (← c.self.view_is, h) refl
