use Rattle.std.proofs.Common.{◌≡◌, ◌+◌, ◌-◌, refl, arith}
use Rattle.brk_table.specs.Meaning.{memory_of}
use Rattle.s370_state.proofs.Laws.{bytes_inside}
use Rattle.space_map.proofs.SpaceLemmas.{list_bytes}
use Rattle.space_map.proofs.space.TaskSpaceSpace.slice.Goals as goal

pub returns-then-a-n : goal.returns-then-a-n
unfolding memory_of
returns-then-a-n c =
    let n : c.get.result + c.args.len - c.get.result ≡ c.args.len = omega arith in
    rw (← c.self.view_is) (rw (n, c.deref.ensures.value, c.get.ensures.value) (bytes_inside _ c.self.inside.bytes.items c.args.at c.args.len (omega arith) (omega arith) refl))

pub returns-in-Some : goal.returns-in-Some
returns-in-Some c =
    let e = c.get-2.ensures.value in
    rw (← c.self.view_is) (list_bytes _ c.self.inside.monitored c.args.at c.args.len c.in-Some.list.now c.self.invariant (rw e at (c.in-Some.ensures.from refl)) (rw e at (c.in-Some.ensures.below refl)) c.in-Some.ensures.size (rw e at c.in-Some.ensures.each))
