use Rattle.std.proofs.Common.{refl}
use Rattle.job_input.specs.declared.words.Command.TheVariants.{Verify}
use Rattle.coverage_commands.proofs.AnswerLemmas.{answered, checked_besides, stopped}
use Rattle.coverage_commands.proofs.verify.answer_verify.Goals as goal

pub returns-in-Ok : goal.returns-in-Ok
returns-in-Ok g c a =
    let ready = rw (c.to_go_on.ensures, c.asks_session.ensures) at c.in-Ok.ensures.ready in
    answered (Verify c.args.name) _ a _ _ c.in-Ok.ready _ refl ready.is ready.input (λ status text h. h.verdict) (λ status text h z. checked_besides c.args.name c.in-Ok.ready _ ready.input ready.is status text h z)
    (rw c.deref.ensures.value at c.write_verdict.ensures)

pub returns-in-Err : goal.returns-in-Err
returns-in-Err g c a =
    stopped (Verify c.args.name) _ a _ _ c.in-Err.refusal refl (rw (c.to_go_on.ensures, c.asks_session.ensures) at c.in-Err.ensures.stopped) c.refuse.ensures
