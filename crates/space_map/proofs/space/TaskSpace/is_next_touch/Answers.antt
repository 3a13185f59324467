use Rattle.std.proofs.Common.{◌≤◌, ◌+◌, length, sym, refl, arith}
use Rattle.std.proofs.lemmas.Bool.Decides.{nat_tests}
use Rattle.cov_base.specs.Meaning.{wrap}
use Rattle.brk_table.specs.Meaning.{memory_of}
use Rattle.space_map.proofs.Touches.{touch_odd, touches-none}
use Rattle.space_map.proofs.space.TaskSpace.is_next_touch.Goals as goal

pub returns-then-not-self : goal.returns-then-not-self
unfolding memory_of
returns-then-not-self c =
    let none : length c.self.inside.tables.now.places ≤ 0 = grind (arith, nat_tests, c.self.invariant.has_places, c.if-not-self.true) in
    rw (← c.self.view_is) (sym (touches-none c.self.inside.tables.now.places (wrap (c.args.at + c.args.i)) none))

pub returns-then-get-eq1 : goal.returns-then-get-eq1
returns-then-get-eq1 c =
    let s = c.self.inside in
    rw (← c.self.view_is) (sym (touch_odd (length s.bytes.items) s.images.now s.tables.now.places c.args.at c.args.i (wrap (c.args.at + c.args.i)) c.self.invariant.are_places.each (rw (← c.self.view_is) at c.requires) (omega arith) refl (omega arith)))
