use Rattle.brk_table.proofs.MapLemmas.{fresh_map}
use Rattle.brk_table.proofs.map.map_of.Goals as goal

pub enter_all-requires-clause-fresh : goal.enter_all-requires-clause-fresh
enter_all-requires-clause-fresh c =
    rw (c.deref_mut.ensures.value, c.in_ok-pages.ensures.items_if_clones_equal (λ y e. e), c.in_ok-entries.ensures.items_if_clones_equal (λ y e. e)) (fresh_map c.args.places.now)
