use Rattle.std.proofs.Common.{◌+◌, refl, ap, ◌∙◌}
use Rattle.module_area.specs.Rule.{fetching}
use Rattle.shared_area.specs.Told.{notes_in}
use Rattle.shared_area.proofs.CallLemmas.{working_task, fetch_live}
use Rattle.shared_area.proofs.NoteLemmas.{fetch_notes}
use Rattle.shared_area.proofs.StayLemmas.{fetch_within, same_task}
use Rattle.shared_area.proofs.steps.SharedCellsCells.fetch.Goals as goal

pub cell_at-found-requires-clause-may : goal.cell_at-found-requires-clause-may
cell_at-found-requires-clause-may c = let pass = c.args.pass.now in let its = working_task pass.seat.me.0 pass.tally c.requires.working in
    record { live = pass.live; place = c.requires.place; task = its.0; bears = its.1; even = its.2 }

pub invariant_of-pass : goal.invariant_of-pass
invariant_of-pass c = let pass = c.args.pass.now in let h = fetch_live c.args.self.now.plan c.args.place.0 c.cell_at-found.result _ _ pass.seat.me.0 _ c.cell_at-found.ensures.told.after record { live = pass.live; counted = pass.counted; given = pass.given } in
    record { live = h.live; counted = h.counted; given = h.given }

pub returns-clause-area : goal.returns-clause-area
returns-clause-area c = let v = c.args.pass.now.seat.me.0 in let plan = c.args.self.now.plan in let told = c.cell_at-found.ensures.told in (
  c.cell_at-found.ensures.area ∙ c.requires.area.0,
  c.cell_at-found.ensures.slots ∙ c.requires.area.1,
  fetch_within plan c.args.place.0 c.cell_at-found.result v _ told,
  same_task plan c.args.pass.now.word v _ (fetching plan c.args.place.0 c.cell_at-found.result v) told.after refl c.requires.area.3,
)

pub returns-clause-answer : goal.returns-clause-answer
returns-clause-answer c = let answer = c.cell_at-found.ensures.told.answer in
    record { planted = answer.planted; plain = answer.plain; later = answer.later; window = answer.window; kept = answer.kept; over = answer.over; lifted = answer.lifted }

pub returns-clause-notes : goal.returns-clause-notes
returns-clause-notes c = let told = c.cell_at-found.ensures.told in let pass = c.args.pass.now in let plan = c.args.self.now.plan in
    ap (λ v. notes_in v (record pass.tally { fetches = pass.tally.fetches + 1 })) told.after ∙ fetch_notes plan c.args.place.0 c.cell_at-found.result pass.seat.me.0 pass.tally told.answer.later
