use Rattle.std.proofs.Common.{refl}
use Rattle.job_input.specs.declared.words.Command.TheVariants.{Show}
use Rattle.coverage_commands.proofs.AnswerLemmas.{answered, stopped}
use Rattle.coverage_commands.proofs.show.answer_show.Goals as goal

pub returns-in-Ok : goal.returns-in-Ok
returns-in-Ok g c a =
    let ready = rw (c.to_go_on.ensures, c.asks_session.ensures) at c.in-Ok.ensures.ready in
    answered (Show c.args.name c.args.grammar) _ a _ _ c.in-Ok.ready _ refl ready.is ready.input (λ status text h. h) (λ status text h z. tt)
    c.write_shown.ensures

pub returns-in-Err : goal.returns-in-Err
returns-in-Err g c a =
    stopped (Show c.args.name c.args.grammar) _ a _ _ c.in-Err.refusal refl (rw (c.to_go_on.ensures, c.asks_session.ensures) at c.in-Err.ensures.stopped) c.refuse.ensures
