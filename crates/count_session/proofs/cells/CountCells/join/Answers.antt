use Rattle.std.proofs.Common.{◌<◌, length, sym, ap, ◌∙◌, subst}
use Rattle.atomic_table.specs.Table.{Joins}
use Rattle.module_area.specs.Meaning.{PlanView}
use Rattle.count_session.specs.Rule.{IsCounting, joining, spent_view, notes_in}
use Rattle.count_session.proofs.WordLemmas.{some_word}
use Rattle.count_session.proofs.StepLemmas.{join_allowed}
use Rattle.count_session.proofs.NoteLemmas.{join_notes}
use Rattle.count_session.proofs.cells.CountCells.join.Goals as goal

pub join_seat-requires : goal.join_seat-requires
join_seat-requires c = let me = c.args.self.now in let seat = c.args.root.now.seat in let v = seat.me.0 in let o = c.args.other.seat in (
  c.requires.area.0,
  c.requires.other.0,
  c.requires.other.1,
  subst (λ k. 0 < k) (sym me.wide) (some_word (length me.plan.places)),
  subst (λ (q : PlanView). Joins (IsCounting q) seat.id v o.id o.me.0 (joining v o.me.0) spent_view) (sym me.keyed) (join_allowed me.plan seat.id o.id v o.me.0 c.requires.root),
)

pub returns-clause-notes : goal.returns-clause-notes
returns-clause-notes c = let me = c.args.self.now in ap (λ m. notes_in me.plan m.0) c.join_seat.ensures.2 ∙ join_notes me.plan c.args.root.now.seat.me.0 c.args.other.seat.me.0
