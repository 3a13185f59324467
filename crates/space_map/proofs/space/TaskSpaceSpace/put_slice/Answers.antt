use Rattle.std.proofs.Common.{refl, ◌∙◌, arith}
use Rattle.space_map.proofs.SpaceLemmas.{whole_put, within}
use Rattle.space_map.proofs.space.TaskSpaceSpace.put_slice.Goals as goal

pub put_list-requires-clause-inside : goal.put_list-requires-clause-inside
put_list-requires-clause-inside c some =
    rw (c.as_mut_slice.ensures.value, c.get.ensures.value) (within _ c.self.inside.monitored c.args.at _ c.self.invariant (omega (arith, c.get.ensures.value, c.get.ensures.below)) some (rw (← c.self.view_is) at c.requires.store))

pub returns-clause-bytes : goal.returns-clause-bytes
returns-clause-bytes c =
    whole_put c.self.inside.bytes.len c.put_list.new.bytes c.self.inside.bytes.items (omega (arith, c.put_list.ensures.filled, c.as_mut_slice.ensures.len))
    ∙ (c.put_list.ensures.value ∙ rw (c.as_mut_slice.ensures.value, c.get.ensures.value, ← c.self.view_is) refl)
