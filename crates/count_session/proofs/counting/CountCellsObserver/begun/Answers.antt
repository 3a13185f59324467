use Rattle.std.proofs.Common.{sym, ap, ◌∙◌, refl}
use Rattle.count_session.specs.Notes.{after_add}
use Rattle.count_session.specs.Passes.{notes_of, plan_in}
use Rattle.count_session.proofs.AddLemmas.{begins_in, fact_there, Adds-quiet, Adds-trap}
use Rattle.count_session.proofs.counting.CountCellsObserver.begun.Goals as goal

pub returns-then-is_breakpoint-clause-makes : goal.returns-then-is_breakpoint-clause-makes
returns-then-is_breakpoint-clause-makes c =
    let p = c.in-Some.place.0 in
    let same = c.requires.ready.places in
    let fact = fact_there _ _ p _ _ _ _ same c.place.ensures.value c.outcome.ensures c.fact-fact.ensures in
    Adds-trap (plan_in c.args.self.now) _ (notes_of c.args.self.now c.fetch.new.pass) p _ c.fetch.result (begins_in _ _ _ _ _ same c.in-Some.is c.requires.placed)
    c.fetch.ensures.cell c.fetch.ensures.notes _ (rw same c.place.ensures.places) (sym c.is_breakpoint.ensures ∙ c.if-is_breakpoint.true) refl
    (c.add.ensures.notes ∙ ap (after_add (notes_of c.args.self.now c.fetch.new.pass) p) fact)

pub returns-else-is_breakpoint-clause-makes : goal.returns-else-is_breakpoint-clause-makes
returns-else-is_breakpoint-clause-makes c =
    Adds-quiet (plan_in c.args.self.now) _ _ c.in-Some.place.0 _ c.fetch.result (begins_in _ _ _ _ _ c.requires.ready.places c.in-Some.is c.requires.placed)
    c.fetch.ensures.cell c.fetch.ensures.notes (sym c.is_breakpoint.ensures ∙ c.if-is_breakpoint.false)
