use Rattle.std.proofs.Common.{◌+◌, refl, ap, ◌∙◌}
use Rattle.module_area.specs.Rule.{marking}
use Rattle.shared_area.specs.Told.{notes_in}
use Rattle.shared_area.proofs.CallLemmas.{mark_live}
use Rattle.shared_area.proofs.NoteLemmas.{mark_notes}
use Rattle.shared_area.proofs.StayLemmas.{same_within, same_task, session_within}
use Rattle.shared_area.proofs.steps.SharedCellsCells.mark.Goals as goal

pub mark_set-found-requires-clause-may : goal.mark_set-found-requires-clause-may
mark_set-found-requires-clause-may c = let pass = c.args.pass.now in record {
  live = pass.live;
  place = c.requires.can.place;
  session = c.requires.can.session;
  in_plan = session_within c.args.self.now.plan c.args.s.0 c.args.place.0 pass.seat.me.0 c.requires.can.area.2 c.requires.can.pending;
  pending = c.requires.can.pending;
  kind = c.requires.can.kind;
}

pub invariant_of-pass : goal.invariant_of-pass
invariant_of-pass c = let pass = c.args.pass.now in
    let h = mark_live c.args.self.now.plan c.args.s.0 c.args.place.0 c.args.fact c.mark_set-found.result _ _ pass.seat.me.0 _ c.mark_set-found.ensures.told.after record { live = pass.live; counted = pass.counted; given = pass.given } in
    record { live = h.live; counted = h.counted; given = h.given }

pub returns-clause-area : goal.returns-clause-area
returns-clause-area c = let v = c.args.pass.now.seat.me.0 in let plan = c.args.self.now.plan in (
  c.mark_set-found.ensures.area ∙ c.requires.can.area.0,
  c.mark_set-found.ensures.slots ∙ c.requires.can.area.1,
  same_within plan v _ (marking plan c.args.s.0 c.args.place.0 c.args.fact c.mark_set-found.result v) c.mark_set-found.ensures.told.after refl c.requires.can.area.2,
  same_task plan c.args.pass.now.word v _ (marking plan c.args.s.0 c.args.place.0 c.args.fact c.mark_set-found.result v) c.mark_set-found.ensures.told.after refl c.requires.can.area.3,
)

pub returns-clause-found : goal.returns-clause-found
returns-clause-found c = let is_found = c.mark_set-found.ensures.told.is_found in record { own = is_found.own; within = is_found.within; full = is_found.full }

pub returns-clause-notes : goal.returns-clause-notes
returns-clause-notes c = let pass = c.args.pass.now in let plan = c.args.self.now.plan in
    ap (λ v. notes_in v (record pass.tally { marks = pass.tally.marks + 1 })) c.mark_set-found.ensures.told.after ∙ mark_notes plan c.args.s.0 c.args.place.0 c.args.fact c.mark_set-found.result pass.seat.me.0 pass.tally
