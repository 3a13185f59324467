use Rattle.std.proofs.Common.{refl, ap, ◌∙◌}
use Rattle.shared_area.specs.Told.{notes_in}
use Rattle.shared_area.proofs.CallLemmas.{is_task}
use Rattle.shared_area.proofs.NoteLemmas.{both_tallies, join_notes}
use Rattle.shared_area.proofs.forks.SharedCellsForks.join.Goals as goal

pub merge-requires-clause-picked : goal.merge-requires-clause-picked
merge-requires-clause-picked c = refl

pub returns-clause-notes : goal.returns-clause-notes
returns-clause-notes c = let root = c.args.root.now in let o = c.args.other.seat.me.0 in
    ap (λ v. notes_in v (both_tallies root.tally c.args.other.tally)) c.merge.ensures.view ∙ join_notes c.args.self.now.plan root.seat.me.0 o _ root.tally c.args.other.tally (is_task o.role c.requires.split)
