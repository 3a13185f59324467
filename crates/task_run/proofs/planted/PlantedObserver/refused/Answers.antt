use Rattle.task_run.proofs.VisitLemmas.{makes_nothing, makes_kept}
use Rattle.task_run.proofs.planted.PlantedObserver.refused.Goals as goal

pub returns-in_default-clause-makes : goal.returns-in_default-clause-makes
returns-in_default-clause-makes g c = makes_nothing _ c.args.tables.now.places _ _ c.requires.ready.places (rw c.in_default.is at c.requires.placed)

pub returns-in-Some-clause-makes : goal.returns-in-Some-clause-makes
returns-in-Some-clause-makes g c =
    makes_kept (g.C.Cells.plan c.args.self.now.cells.now) _ c.args.tables.now.places c.requires.ready.plan c.requires.ready.places _ _ c.in-Some.place.0 c.fetch.result _
    (rw c.in-Some.is at c.requires.placed) c.fetch.ensures.answer c.fetch.ensures.notes (λ never. absurd cc)
