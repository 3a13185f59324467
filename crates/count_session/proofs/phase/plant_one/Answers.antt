use Rattle.std.proofs.Common.{nat_eq, ap, ◌∙◌, arith}
use Rattle.module_area.specs.Meaning.{window_at}
use Rattle.count_session.specs.Notes.{CountNotes}
use Rattle.count_session.specs.Passes.{notes_of}
use Rattle.count_session.proofs.PlantLemmas.{a_window}
use Rattle.count_session.proofs.phase.plant_one.Goals as goal

pub returns-clause-planted : goal.returns-clause-planted
returns-clause-planted c = λ p. ap (λ (n : CountNotes). n.planted p) c.plant.ensures.notes
    ∙ a_window ((notes_of c.args.cells.now c.args.root.now).planted p) (nat_eq p c.args.place.0) (window_at c.args.plan.now c.args.place.0) (omega (arith, c.window.ensures.value, c.if-window-eq0.false))
