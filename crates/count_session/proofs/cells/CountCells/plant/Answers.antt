use Rattle.std.proofs.Common.{◌≡◌, ℕ, ◌<◌, length, sym, ap, ◌∙◌, subst}
use Rattle.atomic_table.specs.Table.{Allows}
use Rattle.module_area.specs.Meaning.{PlanView}
use Rattle.count_session.specs.Words.{planted_word}
use Rattle.count_session.specs.Rule.{IsCounting, planting, notes_in}
use Rattle.count_session.proofs.WordLemmas.{cell_there}
use Rattle.count_session.proofs.StepLemmas.{plant_allowed}
use Rattle.count_session.proofs.cells.CountCells.plant.Goals as goal

pub swap-requires : goal.swap-requires
swap-requires c = let me = c.args.self.now in let seat = c.args.root.now.seat in let p = c.args.place.0 in let w = c.window.ensures.value in (
  c.requires.area.0,
  subst (λ k. p < k) (sym me.wide) (cell_there (length me.plan.places) p c.requires.place),
  subst (λ (x : PlanView × ℕ). Allows (IsCounting x.0) me.table.shared.table_id.slots seat.id seat.me p (λ _. x.1) (λ w m. (m.0 ≡ planting p seat.me.0) × (m.1 ≡ seat.me.1)))
      (λ i. (sym me.keyed i, sym (c.planted_word-new.ensures ∙ ap planted_word w) i))
      (plant_allowed me.plan me.table.shared.table_id.slots seat.id p seat.me c.requires.root c.requires.unsplit c.requires.place),
)

pub invariant_of-root : goal.invariant_of-root
invariant_of-root c = record { live = ap (λ v. v.live) c.swap.ensures.2.0 ∙ c.args.root.now.live }

pub returns-clause-area : goal.returns-clause-area
returns-clause-area c = (c.swap.ensures.0 ∙ c.requires.area.0, c.swap.ensures.2.1 ∙ c.requires.area.1)

pub returns-clause-notes : goal.returns-clause-notes
returns-clause-notes c = ap (notes_in c.args.self.now.plan) c.swap.ensures.2.0
