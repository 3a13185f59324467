use Rattle.std.proofs.Common.{subst}
use Rattle.std.specs.Slots.{slots_items}
use Rattle.atomic_table.specs.Table.{Final, Seen}
use Rattle.module_area.specs.Meaning.{PlanView}
use Rattle.count_session.specs.Rule.{IsCounting}
use Rattle.count_session.proofs.EndLemmas.{has_counts}
use Rattle.count_session.proofs.cells.CountCells.finish.Goals as goal

pub returns : goal.returns
returns c = let plan = c.args.self.plan in let v = c.args.root.seat.me.0 in let words = slots_items c.close_with-closed.result.words in let slots = slots_items c.close_with-closed.result.slots in
    has_counts plan c.args.root.seat.id v words slots c.in_ok-places.field-0.items c.requires.root c.requires.joined
    (subst (λ (q : PlanView). Final (Seen (IsCounting q) c.args.root.seat.id v) words slots) c.args.self.keyed c.close_with-closed.ensures.values.2)
    c.in_ok-places.ensures.size c.in_ok-places.ensures.read
