use Rattle.std.proofs.Common.{◌≡◌, ◌≤◌, ◌-◌, ◌%◌, length, sym, ◌∙◌, arith}
use Rattle.std.proofs.lemmas.Bool.Decides.{nat_tests}
use Rattle.module_area.specs.Meaning.{is_place}
use Rattle.brk_table.specs.Meaning.{memory_of}
use Rattle.space_map.proofs.Touches.{told, touches-halfword, touches-none}
use Rattle.space_map.proofs.space.TaskSpace.is_touch.Goals as goal

pub returns-then-self : goal.returns-then-self
unfolding memory_of
returns-then-self c =
    let places = c.self.inside.tables.now.places in
    let even : c.of.result ≡ c.args.at - c.args.at % 2 = omega arith in
    rw (← c.self.view_is) (told c.at.result c.is_some.result (is_place places c.of.result) c.is_some.ensures c.at.ensures.none ∙ sym (touches-halfword places c.args.at c.of.result c.self.invariant.are_places.each even))

pub returns-else-self : goal.returns-else-self
unfolding memory_of
returns-else-self c =
    let none : length c.self.inside.tables.now.places ≤ 0 = grind (arith, nat_tests, c.self.invariant.has_places, c.if-self.false) in
    rw (← c.self.view_is) (c.if-self.false ∙ sym (touches-none c.self.inside.tables.now.places c.args.at none))
