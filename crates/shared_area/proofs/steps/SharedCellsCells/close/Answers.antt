use Rattle.std.proofs.Common.{◌+◌, ◌*◌, refl, ap, ◌∙◌, arith}
use Rattle.module_area.specs.Parties.{closing}
use Rattle.shared_area.specs.Told.{notes_in}
use Rattle.shared_area.specs.Words.{closed_word_of}
use Rattle.shared_area.proofs.AnswerLemmas.{keeps_there}
use Rattle.shared_area.proofs.CallLemmas.{cell_there, close_at, closed_is, tag_live}
use Rattle.shared_area.proofs.NoteLemmas.{close_notes}
use Rattle.shared_area.proofs.StayLemmas.{same_within, same_task}
use Rattle.shared_area.proofs.steps.SharedCellsCells.close.Goals as goal

pub swap-requires : goal.swap-requires
swap-requires c = let me = c.args.self.now in let pass = c.args.pass.now in let is_open = c.requires.planted in let o = c.original.ensures.value in let b = c.original.type_inv in (
  c.requires.can.area.0,
  cell_there me c.args.place.0 c.requires.can.place,
  close_at me pass.seat c.args.s.0 c.args.place.0 c.closed_word-over.result (omega (arith, o, b)) pass.live c.requires.can.place (keeps_there me.plan pass.seat.me.0 c.args.place.0 pass.tally pass.live c.requires.can.keeper)
      c.requires.can.session c.requires.controlled (omega arith) (c.closed_word-over.ensures ∙ ap (closed_word_of c.args.s.0) o),
)

pub invariant_of-pass : goal.invariant_of-pass
invariant_of-pass c = let pass = c.args.pass.now in let b = c.original.type_inv in let told = closed_is pass.seat.me.0 _ c.args.s.0 c.args.place.0 c.closed_word-over.result c.original.result (omega arith) c.closed_word-over.ensures c.swap.ensures.2.0 in
    let h = tag_live c.args.place.0 (2 * c.args.s.0) _ _ pass.seat.me.0 _ told.after record { live = pass.live; counted = pass.counted; given = pass.given } in
    record { live = h.live; counted = h.counted; given = h.given }

pub returns-clause-area : goal.returns-clause-area
returns-clause-area c = let v = c.args.pass.now.seat.me.0 in let b = c.original.type_inv in let told = closed_is v _ c.args.s.0 c.args.place.0 c.closed_word-over.result c.original.result (omega arith) c.closed_word-over.ensures c.swap.ensures.2.0 in
    (c.swap.ensures.0 ∙ c.requires.can.area.0, c.swap.ensures.2.1 ∙ c.requires.can.area.1, same_within c.args.self.now.plan v _ (closing c.args.s.0 c.args.place.0 v) told.after refl c.requires.can.area.2, same_task c.args.self.now.plan c.args.pass.now.word v _ (closing c.args.s.0 c.args.place.0 v) told.after refl c.requires.can.area.3)

pub returns-clause-notes : goal.returns-clause-notes
returns-clause-notes c = let pass = c.args.pass.now in let b = c.original.type_inv in let told = closed_is pass.seat.me.0 _ c.args.s.0 c.args.place.0 c.closed_word-over.result c.original.result (omega arith) c.closed_word-over.ensures c.swap.ensures.2.0 in
    ap (λ v. notes_in v (record pass.tally { closes = pass.tally.closes + 1 })) told.after ∙ close_notes c.args.s.0 c.args.place.0 pass.seat.me.0 pass.tally told.higher
