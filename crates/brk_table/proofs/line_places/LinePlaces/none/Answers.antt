use Rattle.brk_table.proofs.NumberLemmas.{no_places}
use Rattle.brk_table.proofs.line_places.LinePlaces.none.Goals as goal

pub returns : goal.returns
returns c = rw (c.in_ok-numbers.ensures.items_if_clones_equal (λ y e. e)) (no_places c.args.count)
