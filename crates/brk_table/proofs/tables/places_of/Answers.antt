use Rattle.std.proofs.Common.{◌++◌, take, sym, ap, ◌∙◌}
use Rattle.brk_table.specs.Meaning.{all_places}
use Rattle.brk_table.proofs.AllPlaces.{all_places_more}
use Rattle.brk_table.proofs.tables.places_of.Goals as goal

pub loop-table-preserved : goal.loop-table-preserved
loop-table-preserved c =
    let more = all_places_more c.args.tables.now c.loop-table.table-index c.table-item.result c.loop-table-test.true c.table-item.is in
    c.in_ok-extend_from_slice.ensures.items ∙ (ap (λ x. x ++ c.places.result.now) c.loop-table.invariant ∙ (ap (λ x. all_places (take c.loop-table.table-index c.args.tables.now) ++ x) c.places.ensures ∙ sym more))
