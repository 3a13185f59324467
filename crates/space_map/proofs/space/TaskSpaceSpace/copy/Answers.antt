use Rattle.std.proofs.Common.{◌≡◌, length, refl, sym, ap, ◌∙◌, arith}
use Rattle.space_map.specs.Space.{SpaceView, memory_of_space}
use Rattle.space_map.proofs.SpaceLemmas.{whole_put, within, private_filled, list_copied}
use Rattle.space_map.proofs.space.TaskSpaceSpace.copy.Goals as goal

pub copy_bytes-requires-clause-to : goal.copy_bytes-requires-clause-to
copy_bytes-requires-clause-to c some =
    rw (c.as_mut_slice.ensures.value, c.get.ensures.value) (within _ c.self.inside.monitored c.args.to c.args.len c.self.invariant (omega (arith, c.get.ensures.value, c.get.ensures.below)) some (rw (← c.self.view_is) at c.requires.store))

pub put_list-requires-clause-inside : goal.put_list-requires-clause-inside
put_list-requires-clause-inside c some =
    rw (c.as_mut_slice-in-Some.ensures.value, c.get.ensures.value, c.in-Some.ensures.size) (within _ c.self.inside.monitored c.args.to c.args.len c.self.invariant (omega (arith, c.get.ensures.value, c.get.ensures.below)) (omega (arith, c.in-Some.ensures.size)) (rw (← c.self.view_is) at c.requires.store))

pub returns-then-b-n-clause-bytes : goal.returns-then-b-n-clause-bytes
returns-then-b-n-clause-bytes c =
    let s = c.args.self.now in
    let same : c.as_mut_slice.result.now ≡ s.bytes = c.as_mut_slice.ensures.value ∙ ap (λ (v : SpaceView). v.bytes) c.self.view_is in
    let value = c.copy_bytes.ensures.value (memory_of_space s) (sym (private_filled s) ∙ ap length (sym same)) in
    whole_put c.self.inside.bytes.len c.copy_bytes.new.bytes c.self.inside.bytes.items (omega (arith, c.copy_bytes.ensures.filled, c.as_mut_slice.ensures.len))
    ∙ (rw (same, c.get.ensures.value, c.get-2.ensures.value) at value)

pub returns-in-Some-clause-bytes : goal.returns-in-Some-clause-bytes
returns-in-Some-clause-bytes c =
    let e = c.get-else-b-n.ensures.value in
    whole_put c.self.inside.bytes.len c.put_list.new.bytes c.self.inside.bytes.items (omega (arith, c.put_list.ensures.filled, c.as_mut_slice-in-Some.ensures.len))
    ∙ (c.put_list.ensures.value ∙ rw (c.as_mut_slice-in-Some.ensures.value, c.get.ensures.value, ← c.self.view_is)
    (list_copied _ c.self.inside.monitored c.args.to c.args.from c.args.len c.in-Some.list.now c.self.invariant (rw e at (c.in-Some.ensures.from refl)) (rw e at (c.in-Some.ensures.below refl)) c.in-Some.ensures.size (rw e at c.in-Some.ensures.each)))
