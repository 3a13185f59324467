use Rattle.std.proofs.Common.{arith}
use Rattle.job_text.proofs.Readings.{taken_size, refused_answer}
use Rattle.job_text.proofs.pieces.Pieces.finish.Goals as goal

pub finish-requires-clause-ran : goal.finish-requires-clause-ran
finish-requires-clause-ran c = (c.requires.taken.0, c.in-Ok.ensures.ran c.requires.taken.0 c.requires.taken.1)

pub finish-requires-clause-room : goal.finish-requires-clause-room
finish-requires-clause-room c =
    let bytes = c.requires.taken.0 in
    let h = c.in-Ok.ensures.ran bytes c.requires.taken.1 in
    omega (arith, h.size, taken_size bytes c.args.self.now c.requires.taken.1, c.requires.room)

pub returns-in-Ok : goal.returns-in-Ok
returns-in-Ok c = λ bytes h. rw (← c.in-Ok.ensures.grammar) (c.finish.ensures bytes (c.in-Ok.ensures.ran bytes h))

pub returns-in-Err : goal.returns-in-Err
returns-in-Err c = λ bytes h. refused_answer bytes (c.in-Err.ensures.fault bytes h)
