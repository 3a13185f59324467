use Rattle.std.proofs.Common.{Bool, refl, ap, ◌∙◌}
use Rattle.module_area.specs.Notes.{is_final, no_tally}
use Rattle.module_area.specs.Parties.{reading}
use Rattle.shared_area.specs.Told.{notes_in}
use Rattle.shared_area.proofs.CallLemmas.{read_live}
use Rattle.shared_area.proofs.NoteLemmas.{read_notes}
use Rattle.shared_area.proofs.StayLemmas.{same_within, same_task}
use Rattle.shared_area.proofs.drains.SharedCellsDrains.read_set.Goals as goal

pub invariant_of-pass : goal.invariant_of-pass
invariant_of-pass c = let pass = c.args.pass.now in
    let h = read_live c.args.s.0 c.args.place.0 _ c.read.result _ _ pass.seat.me.0 _ c.read.ensures.told.after record { live = pass.live; counted = pass.counted; given = pass.given } in
    record { live = h.live; counted = h.counted; given = h.given }

pub returns-clause-area : goal.returns-clause-area
returns-clause-area c = let v = c.args.pass.now.seat.me.0 in let plan = c.args.self.now.plan in let told = c.read.ensures.told in
    let final : Bool = is_final plan (notes_in v no_tally) c.args.s.0 c.args.place.0 in (
      c.read.ensures.area ∙ c.requires.area.0,
      c.read.ensures.slots ∙ c.requires.area.1,
      same_within plan v _ (reading c.args.s.0 c.args.place.0 final c.read.result v) told.after refl c.requires.area.2,
      same_task plan c.args.pass.now.word v _ (reading c.args.s.0 c.args.place.0 final c.read.result v) told.after refl c.requires.area.3,
    )

pub returns-clause-found : goal.returns-clause-found
returns-clause-found c = let is_found = c.read.ensures.told.is_found in record { own = is_found.own; within = is_found.within; full = is_found.full }

pub returns-clause-settled : goal.returns-clause-settled
returns-clause-settled c = c.read.ensures.told.settled

pub returns-clause-notes : goal.returns-clause-notes
returns-clause-notes c = let pass = c.args.pass.now in
    ap (λ v. notes_in v pass.tally) c.read.ensures.told.after ∙ read_notes c.args.self.now.plan c.args.s.0 c.args.place.0 c.read.result pass.seat.me.0 pass.tally
