use Rattle.std.proofs.Common.{refl, ap, ◌∙◌}
use Rattle.module_area.specs.Notes.{no_tally}
use Rattle.shared_area.specs.Told.{notes_in}
use Rattle.shared_area.proofs.CallLemmas.{split_live}
use Rattle.shared_area.proofs.NoteLemmas.{not_there, split_root, split_pass}
use Rattle.shared_area.proofs.forks.SharedCellsForks.split.Goals as goal

pub cut-seat-requires-clause-first : goal.cut-seat-requires-clause-first
cut-seat-requires-clause-first c h = not_there c.args.task.0 c.args.root.now.seat.me.0.given c.requires.first h

pub cut-seat-requires-clause-picked : goal.cut-seat-requires-clause-picked
cut-seat-requires-clause-picked c = (refl, refl)

pub invariant_of-root : goal.invariant_of-root
invariant_of-root c = let pass = c.args.root.now in let h = split_live c.args.task.0 _ _ pass.seat.me.0 _ c.cut-seat.ensures.root record { live = pass.live; counted = pass.counted; given = pass.given } in
    record { live = h.live; counted = h.counted; given = h.given }

pub returns-clause-notes : goal.returns-clause-notes
returns-clause-notes c = let pass = c.args.root.now in ap (λ v. notes_in v pass.tally) c.cut-seat.ensures.root ∙ split_root c.args.task.0 pass.seat.me.0 pass.tally pass.given c.requires.first

pub returns-clause-fresh : goal.returns-clause-fresh
returns-clause-fresh c = let pass = c.args.root.now in ap (λ v. notes_in v no_tally) c.cut-seat.ensures.fresh ∙ split_pass c.args.self.now.plan c.args.task.0 pass.seat.me.0 pass.tally
