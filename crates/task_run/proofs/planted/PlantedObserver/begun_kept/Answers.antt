use Rattle.std.proofs.Common.{refl, ◌∙◌}
use Rattle.task_run.proofs.VisitLemmas.{makes_nothing, makes_kept, makes_settled}
use Rattle.task_run.proofs.planted.PlantedObserver.begun_kept.Goals as goal

pub returns-in_default-clause-makes : goal.returns-in_default-clause-makes
returns-in_default-clause-makes g c = makes_nothing _ c.args.tables.now.places _ _ c.requires.ready.places (rw c.in_default.is at c.requires.placed)

pub returns-then-cell-ne-BREAKPOINT-clause-makes :
    goal.returns-then-cell-ne-BREAKPOINT-clause-makes
returns-then-cell-ne-BREAKPOINT-clause-makes g c =
    makes_kept (g.C.Cells.plan c.args.self.now.cells.now) _ c.args.tables.now.places c.requires.ready.plan c.requires.ready.places _ _ c.in-Some.place.0 c.fetch-cell.result _
    (rw c.in-Some.is at c.requires.placed) c.fetch-cell.ensures.answer c.fetch-cell.ensures.notes (λ begun. c.if-cell-ne-BREAKPOINT.true)

pub returns-in-Nothing-clause-makes : goal.returns-in-Nothing-clause-makes
returns-in-Nothing-clause-makes g c =
    makes_settled (g.C.Cells.plan c.args.self.now.cells.now) _ c.args.tables.now.places c.requires.ready.plan c.requires.ready.places _ _ _ c.in-Some.place.0 c.fetch-cell.result _ _
    (rw c.in-Some.is at c.requires.placed) c.fetch-cell.ensures.answer ((rw c.in-Nothing.is at c.settle_again.ensures.traps) ∙ c.fetch-cell.ensures.notes) c.if-cell-ne-BREAKPOINT.false refl refl c.settle_apart.ensures.settles

pub returns-in-Condition-clause-makes : goal.returns-in-Condition-clause-makes
returns-in-Condition-clause-makes g c =
    makes_settled (g.C.Cells.plan c.args.self.now.cells.now) _ c.args.tables.now.places c.requires.ready.plan c.requires.ready.places _ _ _ c.in-Some.place.0 c.fetch-cell.result _ _
    (rw c.in-Some.is at c.requires.placed) c.fetch-cell.ensures.answer c.fetch-cell.ensures.notes c.if-cell-ne-BREAKPOINT.false refl refl (rw c.in-Condition.is at c.settle_again.ensures.traps)

pub returns-in-Count-clause-makes : goal.returns-in-Count-clause-makes
returns-in-Count-clause-makes g c =
    makes_settled (g.C.Cells.plan c.args.self.now.cells.now) _ c.args.tables.now.places c.requires.ready.plan c.requires.ready.places _ _ _ c.in-Some.place.0 c.fetch-cell.result _ _
    (rw c.in-Some.is at c.requires.placed) c.fetch-cell.ensures.answer c.fetch-cell.ensures.notes c.if-cell-ne-BREAKPOINT.false refl refl (rw c.in-Count.is at c.settle_again.ensures.traps)
