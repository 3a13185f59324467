use Rattle.std.proofs.Common.{refl}
use Rattle.job_input.specs.declared.words.Command.TheVariants.{Replay}
use Rattle.coverage_commands.proofs.AnswerLemmas.{answered, played, replayed_besides, stopped}
use Rattle.coverage_commands.proofs.replay.answer_replay.Goals as goal

pub returns-in-Ok : goal.returns-in-Ok
returns-in-Ok g c a =
    let ready = rw (c.to_go_on.ensures) at c.in-Ok.ensures.ready in
    answered Replay _ a _ _ c.in-Ok.ready _ refl ready.is ready.input (λ status text h. played c.in-Ok.ready status text h) (λ status text h z. replayed_besides c.in-Ok.ready _ ready.input ready.is status text h z)
    (rw c.deref.ensures.value at c.write_schedule.ensures)

pub returns-in-Err : goal.returns-in-Err
returns-in-Err g c a =
    stopped Replay _ a _ _ c.in-Err.refusal refl (rw (c.to_go_on.ensures) at c.in-Err.ensures.stopped) c.refuse.ensures
