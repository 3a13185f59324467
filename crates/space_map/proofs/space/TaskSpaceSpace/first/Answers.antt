use Rattle.std.proofs.Common.{refl}
use Rattle.space_map.proofs.SpaceLemmas.{first_listed}
use Rattle.space_map.proofs.space.TaskSpaceSpace.first.Goals as goal

pub returns-in-Some : goal.returns-in-Some
returns-in-Some c =
    let e = c.get.ensures.value in
    let from = rw e at (c.in-Some.ensures.from refl) in
    let below = rw e at (c.in-Some.ensures.below refl) in
    let one = rw e at (c.in-Some.ensures.first refl) in
    let next = rw e at (c.in-Some.ensures.second refl) in
    let value = rw e at c.in-Some.ensures.value in
    rw (← c.self.view_is) (first_listed _ c.self.inside.monitored c.args.at c.in-Some.h c.self.invariant from below one next value)
