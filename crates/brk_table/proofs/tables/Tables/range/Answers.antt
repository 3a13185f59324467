use Rattle.std.proofs.Common.{◌≡◌, ◌<◌, ◌≤◌, length, ap, sym, ◌∙◌, arith}
use Rattle.brk_table.specs.Meaning.{TablesView, all_places}
use Rattle.brk_table.proofs.RangeLemmas.{at_start, own_table, other_table, any_table, no_table}
use Rattle.brk_table.proofs.tables.Tables.range.Goals as goal

pub loop-i-init : goal.loop-i-init
loop-i-init c = record { table = at_start _ _; small = omega arith }

pub loop-i-preserved : goal.loop-i-preserved
loop-i-preserved c =
    let seen = ap (λ (v : TablesView). v.tables) c.self.view_is in
    let below : c.loop-i.i < length c.self.inside.tables.items = omega arith in
    let next = other_table c.self.inside.tables.items c.args.self.now.tables _ _ _ c.index-table.result.now _ seen below c.index-table.ensures c.loop-i.invariant.table c.is_of.ensures c.if-is_of.false in
    let room = any_table c.self.inside.tables.items c.args.self.now.tables _ _ _ c.index-table.result.now seen below c.index-table.ensures c.loop-i.invariant.table in
    record { table = rw c.size-count.ensures next; small = omega (arith, room, c.self.invariant.1.most, ap length c.self.invariant.0, c.size-count.ensures) }

pub overflow_cast-result-then-is_of : goal.overflow_cast-result-then-is_of
overflow_cast-result-then-is_of c =
    let seen = ap (λ (v : TablesView). v.tables) c.self.view_is in
    let below : c.loop-i.i < length c.self.inside.tables.items = omega arith in
    let room = any_table c.self.inside.tables.items c.args.self.now.tables _ _ _ c.index-table.result.now seen below c.index-table.ensures c.loop-i.invariant.table in
    omega (arith, room, c.self.invariant.1.most, ap length c.self.invariant.0, c.size-count.ensures)

pub returns-then-is_of : goal.returns-then-is_of
returns-then-is_of c =
    let seen = ap (λ (v : TablesView). v.tables) c.self.view_is in
    let below : c.loop-i.i < length c.self.inside.tables.items = omega arith in
    let own = own_table c.self.inside.tables.items c.args.self.now.tables _ _ _ c.index-table.result.now _ seen below c.index-table.ensures c.loop-i.invariant.table c.is_of.ensures c.if-is_of.true in
    let all : all_places c.args.self.now.tables ≡ c.args.self.now.places = ap all_places (sym seen) ∙ sym c.self.invariant.0 ∙ ap (λ (v : TablesView). v.places) c.self.view_is in
    record {
      first = own.before;
      past = omega (arith, own.before, own.count, c.size-count.ensures);
      exist = omega (arith, own.room, ap length all, c.size-count.ensures);
      all = sym all;
    }

pub returns : goal.returns
returns c =
    let seen = ap (λ (v : TablesView). v.tables) c.self.view_is in
    let past : length c.self.inside.tables.items ≤ c.loop-i.i = omega arith in
    let none = no_table c.self.inside.tables.items c.args.self.now.tables _ _ _ seen past c.loop-i.invariant.table in
    let all : all_places c.args.self.now.tables ≡ c.args.self.now.places = ap all_places (sym seen) ∙ sym c.self.invariant.0 ∙ ap (λ (v : TablesView). v.places) c.self.view_is in
    record {
      first = none.before;
      past = omega (arith, none.before, none.count);
      exist = omega (arith, none.room, ap length all);
      all = sym all;
    }
