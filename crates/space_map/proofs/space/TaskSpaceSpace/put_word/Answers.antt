use Rattle.std.proofs.Common.{refl, ◌∙◌, arith}
use Rattle.space_map.proofs.SpaceLemmas.{whole_put, within}
use Rattle.space_map.proofs.space.TaskSpaceSpace.put_word.Goals as goal

pub returns-clause-bytes : goal.returns-clause-bytes
returns-clause-bytes c =
    let inside = within _ c.self.inside.monitored c.args.at 4 c.self.invariant (omega (arith, c.get.ensures.value, c.get.ensures.below)) (omega arith) (rw (← c.self.view_is) at c.requires) in
    whole_put c.self.inside.bytes.len c.put_bytes.new.bytes c.self.inside.bytes.items (omega (arith, c.put_bytes.ensures.filled, c.as_mut_slice.ensures.len))
    ∙ (c.put_bytes.ensures.value ∙ rw (c.as_mut_slice.ensures.value, c.get.ensures.value, ← c.self.view_is) refl)
