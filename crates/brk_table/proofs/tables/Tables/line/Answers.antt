use Rattle.std.proofs.Common.{◌<◌, ◌≤◌, length, ap, sym, ◌∙◌, subst, arith}
use Rattle.brk_table.specs.Meaning.{TablesView}
use Rattle.brk_table.specs.Places.{HasItsPlaces}
use Rattle.brk_table.proofs.RangeLemmas.{at_start, own_table, other_table, any_table, no_table, place_bounds}
use Rattle.brk_table.proofs.tables.Tables.line.Goals as goal

pub loop-i-init : goal.loop-i-init
loop-i-init c = record { table = at_start _ _; small = omega arith }

pub loop-i-preserved : goal.loop-i-preserved
loop-i-preserved c =
    let seen = ap (λ (v : TablesView). v.tables) c.self.view_is in
    let below : c.loop-i.i < length c.self.inside.tables.items = omega arith in
    let next = other_table c.self.inside.tables.items c.args.self.now.tables _ _ _ c.index-table.result.now _ seen below c.index-table.ensures c.loop-i.invariant.table c.is_of.ensures c.if-is_of.false in
    let room = any_table c.self.inside.tables.items c.args.self.now.tables _ _ _ c.index-table.result.now seen below c.index-table.ensures c.loop-i.invariant.table in
    record { table = rw c.size-first.ensures next; small = omega (arith, room, c.self.invariant.1.most, ap length c.self.invariant.0, c.size-first.ensures) }

pub place_after-requires-clause-fits : goal.place_after-requires-clause-fits
place_after-requires-clause-fits c =
    let seen = ap (λ (v : TablesView). v.tables) c.self.view_is in
    let below : c.loop-i.i < length c.self.inside.tables.items = omega arith in
    let room = any_table c.self.inside.tables.items c.args.self.now.tables _ _ _ c.index-table.result.now seen below c.index-table.ensures c.loop-i.invariant.table in
    omega (arith, room, c.self.invariant.1.most, ap length c.self.invariant.0)

pub returns-then-is_of : goal.returns-then-is_of
returns-then-is_of c =
    let seen = ap (λ (v : TablesView). v.tables) c.self.view_is in
    let below : c.loop-i.i < length c.self.inside.tables.items = omega arith in
    let own = own_table c.self.inside.tables.items c.args.self.now.tables _ _ _ c.index-table.result.now _ seen below c.index-table.ensures c.loop-i.invariant.table c.is_of.ensures c.if-is_of.true in
    let its = subst HasItsPlaces (sym c.index-table.ensures) (c.self.invariant.2 c.loop-i.i c.index-table.result.now below) in
    let bounds = place_bounds _ _ _ _ c.args.line c.place_after.result own its c.place_after.ensures in
    record { value = c.place_after.ensures ∙ own.lines c.args.line; from = bounds.0; to = bounds.1 }

pub returns-clause-value : goal.returns-clause-value
returns-clause-value c =
    let seen = ap (λ (v : TablesView). v.tables) c.self.view_is in
    let past : length c.self.inside.tables.items ≤ c.loop-i.i = omega arith in
    let none = no_table c.self.inside.tables.items c.args.self.now.tables _ _ _ seen past c.loop-i.invariant.table in
    none.lines c.args.line

pub overflow_add-first : goal.overflow_add-first
overflow_add-first c =
    let seen = ap (λ (v : TablesView). v.tables) c.self.view_is in
    let below : c.loop-i.i < length c.self.inside.tables.items = omega arith in
    let room = any_table c.self.inside.tables.items c.args.self.now.tables _ _ _ c.index-table.result.now seen below c.index-table.ensures c.loop-i.invariant.table in
    omega (arith, room, c.self.invariant.1.most, ap length c.self.invariant.0, c.size-first.ensures)
