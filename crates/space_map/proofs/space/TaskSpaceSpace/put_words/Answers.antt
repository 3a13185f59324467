use Rattle.std.proofs.Common.{◌*◌, length, refl, ◌∙◌, arith}
use Rattle.space_map.proofs.SpaceLemmas.{whole_put, within}
use Rattle.space_map.proofs.space.TaskSpaceSpace.put_words.Goals as goal

pub put_all-requires-clause-inside : goal.put_all-requires-clause-inside
put_all-requires-clause-inside c some =
    rw (c.as_mut_slice.ensures.value, c.get.ensures.value) (within _ c.self.inside.monitored c.args.at (4 * length c.args.from.now) c.self.invariant (omega (arith, c.get.ensures.value, c.get.ensures.below)) (omega (arith, some)) (rw (← c.self.view_is) at c.requires.store))

pub returns-clause-bytes : goal.returns-clause-bytes
returns-clause-bytes c =
    whole_put c.self.inside.bytes.len c.put_all.new.bytes c.self.inside.bytes.items (omega (arith, c.put_all.ensures.filled, c.as_mut_slice.ensures.len))
    ∙ (c.put_all.ensures.value ∙ rw (c.as_mut_slice.ensures.value, c.get.ensures.value, ← c.self.view_is) refl)
