use Rattle.std.proofs.Common.{◌≡◌, ◌<◌, length, sym, ap, ◌∙◌, subst}
use Rattle.atomic_table.specs.Table.{Allows}
use Rattle.module_area.specs.Meaning.{PlanView}
use Rattle.count_session.specs.Notes.{cell_at}
use Rattle.count_session.specs.Rule.{IsCounting, Fetched, notes_in}
use Rattle.count_session.proofs.WordLemmas.{cell_there}
use Rattle.count_session.proofs.StepLemmas.{fetch_allowed}
use Rattle.count_session.proofs.cells.CountCells.fetch.Goals as goal

pub load-found-requires : goal.load-found-requires
load-found-requires c = let me = c.args.self.now in let seat = c.args.pass.now.seat in let p = c.args.place.0 in (
  c.requires.area.0,
  subst (λ k. p < k) (sym me.wide) (cell_there (length me.plan.places) p c.requires.place),
  subst (λ (q : PlanView). Allows (IsCounting q) me.table.shared.table_id.slots seat.id seat.me p (λ w. w) (λ w m. Fetched q p seat.me.0 w m.0 × (m.1 ≡ seat.me.1))) (sym me.keyed)
      (fetch_allowed me.plan me.table.shared.table_id.slots seat.id p seat.me c.args.pass.now.live c.requires.place),
)

pub invariant_of-pass : goal.invariant_of-pass
invariant_of-pass c = record { live = ap (λ v. v.live) c.load-found.ensures.2.0.after ∙ c.args.pass.now.live }

pub cell-requires : goal.cell-requires
cell-requires c = c.load-found.ensures.2.0.small

pub returns-clause-area : goal.returns-clause-area
returns-clause-area c = (c.load-found.ensures.0 ∙ c.requires.area.0, c.load-found.ensures.2.1 ∙ c.requires.area.1)

pub returns-clause-cell : goal.returns-clause-cell
returns-clause-cell c = let me = c.args.self.now in c.cell.ensures ∙ (c.load-found.ensures.2.0.cell ∙ ap (λ (q : PlanView). cell_at q (notes_in q c.args.pass.now.seat.me.0) c.args.place.0) me.keyed)

pub returns-clause-notes : goal.returns-clause-notes
returns-clause-notes c = ap (notes_in c.args.self.now.plan) c.load-found.ensures.2.0.after
