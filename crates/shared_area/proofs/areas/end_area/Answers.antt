use Rattle.std.proofs.Common.{subst}
use Rattle.std.specs.Slots.{slots_items}
use Rattle.atomic_table.specs.Table.{Final, Seen}
use Rattle.module_area.specs.Meaning.{PlanView, FinalsView, set_at}
use Rattle.module_area.specs.Ended.{AreSettled, HasSets, HasTally}
use Rattle.shared_area.specs.Passes.{notes_of}
use Rattle.shared_area.specs.Rule.{IsArea}
use Rattle.shared_area.proofs.AnswerLemmas.{is_root}
use Rattle.shared_area.proofs.CloseLemmas.{ended, ended_race}
use Rattle.shared_area.proofs.areas.end_area.Goals as goal

abbrev finals-of : (c : goal.After-drop-plan-inside-5) → FinalsView
finals-of c = record { places = c.places_len.result; sets = c.in_ok-sets.field-0.items }

ends : (c : goal.After-drop-plan-inside-5) → HasSets c.args.cells.plan (notes_of c.args.root) (finals-of c) × HasTally c.args.cells.plan (notes_of c.args.root) (finals-of c) × AreSettled c.args.cells.plan (notes_of c.args.root) (set_at (finals-of c))
ends c = let v = c.args.root.seat.me.0 in let words = slots_items c.close_with-closed.result.words in let slots = slots_items c.close_with-closed.result.slots in
    ended c.args.cells.plan c.args.root.seat.id v c.args.root.tally words slots (finals-of c) (is_root v.role c.args.root.live c.requires.root) c.requires.joined c.args.root.counted
    c.places_len.ensures.value c.in_ok-sets.ensures.size c.in_ok-sets.ensures.sets
    (subst (λ (q : PlanView). Final (Seen (IsArea q) c.args.root.seat.id v) words slots) c.args.cells.keyed c.close_with-closed.ensures.values.2)

pub returns-clause-sets : goal.returns-clause-sets
returns-clause-sets c = (ends c).0

pub returns-clause-settled : goal.returns-clause-settled
returns-clause-settled c = (ends c).2

pub returns-clause-tally : goal.returns-clause-tally
returns-clause-tally c = (ends c).1

pub returns-clause-race : goal.returns-clause-race
returns-clause-race c = let v = c.args.root.seat.me.0 in let words = slots_items c.close_with-closed.result.words in let slots = slots_items c.close_with-closed.result.slots in
    ended_race c.args.cells.plan c.args.root.seat.id v c.args.root.tally words slots (finals-of c) (is_root v.role c.args.root.live c.requires.root) c.requires.joined c.args.root.counted
    c.places_len.ensures.value c.in_ok-sets.ensures.size c.in_ok-sets.ensures.sets
    (subst (λ (q : PlanView). Final (Seen (IsArea q) c.args.root.seat.id v) words slots) c.args.cells.keyed c.close_with-closed.ensures.values.2)
