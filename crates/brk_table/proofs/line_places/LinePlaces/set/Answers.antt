use Rattle.brk_table.proofs.NumberLemmas.{place_given}
use Rattle.brk_table.proofs.line_places.LinePlaces.set.Goals as goal

pub returns : goal.returns
returns c = rw (← c.self.view_is) (place_given c.self.inside.numbers.items c.args.i c.args.place)
