use Rattle.shared_area.proofs.CallLemmas.{note_at, noted_is}
use Rattle.std.proofs.Common.{ap}
use Rattle.shared_area.specs.Told.{notes_in}
use Rattle.shared_area.proofs.drains.SharedCellsDrains.note.Goals as goal

pub load-requires : goal.load-requires
load-requires c = let pass = c.args.pass.now in let step = note_at c.args.self.now pass.seat c.args.task.0 c.task_word-at.result pass.live c.requires.task c.task_word-at.ensures in (c.requires.area.0, step.0, step.1)

pub returns-clause-word : goal.returns-clause-word
returns-clause-word c = let is_word = (noted_is c.args.self.now c.args.pass.now.seat.me.0 _ c.args.task.0 c.task_word-at.result c.load.result c.requires.task c.task_word-at.ensures c.load.ensures.2.0).is_word in
    record { noted = is_word.noted; own = is_word.own }

pub returns-clause-notes : goal.returns-clause-notes
returns-clause-notes c = let pass = c.args.pass.now in
    ap (λ v. notes_in v pass.tally) (noted_is c.args.self.now pass.seat.me.0 _ c.args.task.0 c.task_word-at.result c.load.result c.requires.task c.task_word-at.ensures c.load.ensures.2.0).after
