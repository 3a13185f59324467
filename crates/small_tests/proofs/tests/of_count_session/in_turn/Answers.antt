use Rattle.std.proofs.Common.{◌≡◌, ℕ, ◌||◌, Bool, true, nat_eq, ap, ◌∙◌}
use Rattle.count_session.specs.Notes.{CountNotes, root_notes, after_plant}
use Rattle.small_tests.proofs.tests.of_count_session.in_turn.Goals as goal

-- places 0 and 1 are planted one after the other
two_planted : (n m o : CountNotes) → n ≡ root_notes → m ≡ after_plant n 0 → o ≡ after_plant m 1 → (o.planted 0 ≡ true) × (o.planted 1 ≡ true)
two_planted n m o none first second = (
  ap (λ (x : CountNotes). x.planted 0) second ∙ (ap (λ (x : CountNotes). x.planted 0 || nat_eq 0 1) first ∙ ap (λ (x : CountNotes). (x.planted 0 || nat_eq 0 0) || nat_eq 0 1) none),
  ap (λ (x : CountNotes). x.planted 1) second ∙ (ap (λ (x : CountNotes). x.planted 1 || nat_eq 1 1) first ∙ ap (λ (x : CountNotes). (x.planted 1 || nat_eq 1 0) || nat_eq 1 1) none),
)

pub plant-requires-clause-unplanted : goal.plant-requires-clause-unplanted
plant-requires-clause-unplanted c = ap (λ (n : CountNotes). n.planted 0) c.in_ok-cells.ensures.root

pub plant-requires-2-clause-unplanted : goal.plant-requires-2-clause-unplanted
plant-requires-2-clause-unplanted c = ap (λ (n : CountNotes). n.planted 1) c.plant.ensures.notes ∙ ap (λ (n : CountNotes). n.planted 1 || nat_eq 1 0) c.in_ok-cells.ensures.root

pub visit-requires-clause-planted : goal.visit-requires-clause-planted
visit-requires-clause-planted c = ap (λ (n : CountNotes). n.planted 0) c.split-first.ensures.fresh ∙ (two_planted _ _ _ c.in_ok-cells.ensures.root c.plant.ensures.notes c.plant-2.ensures.notes).0

pub visit-requires-2-clause-planted : goal.visit-requires-2-clause-planted
visit-requires-2-clause-planted c =
    ap (λ (n : CountNotes). n.planted 0) c.split-second.ensures.fresh
    ∙ (ap (λ (n : CountNotes). n.planted 0) c.split-first.ensures.notes ∙ (two_planted _ _ _ c.in_ok-cells.ensures.root c.plant.ensures.notes c.plant-2.ensures.notes).0)

pub visit-requires-3-clause-planted : goal.visit-requires-3-clause-planted
visit-requires-3-clause-planted c =
    ap (λ (f : ℕ → Bool). f 0) c.visit.ensures.planted
    ∙ (ap (λ (n : CountNotes). n.planted 0) c.split-first.ensures.fresh ∙ (two_planted _ _ _ c.in_ok-cells.ensures.root c.plant.ensures.notes c.plant-2.ensures.notes).0)

pub visit-requires-4-clause-planted : goal.visit-requires-4-clause-planted
visit-requires-4-clause-planted c =
    ap (λ (f : ℕ → Bool). f 1) c.visit-3.ensures.planted
    ∙ (ap (λ (f : ℕ → Bool). f 1) c.visit.ensures.planted
    ∙ (ap (λ (n : CountNotes). n.planted 1) c.split-first.ensures.fresh ∙ (two_planted _ _ _ c.in_ok-cells.ensures.root c.plant.ensures.notes c.plant-2.ensures.notes).1))
