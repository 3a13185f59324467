use Rattle.std.proofs.Common.{refl}
use Rattle.job_input.specs.declared.words.Command.TheVariants.{Ends}
use Rattle.coverage_commands.proofs.AnswerLemmas.{answered, stopped}
use Rattle.coverage_commands.proofs.ends.answer_ends.Goals as goal

pub returns-in-Ok : goal.returns-in-Ok
returns-in-Ok g c a =
    let ready = rw (c.to_end.ensures) at c.in-Ok.ensures.ready in
    answered (Ends c.args.grammar) _ a _ _ c.in-Ok.ready _ refl ready.is ready.input (λ status text h. h) (λ status text h z. tt)
    c.write_job_ends.ensures

pub returns-in-Err : goal.returns-in-Err
returns-in-Err g c a =
    stopped (Ends c.args.grammar) _ a _ _ c.in-Err.refusal refl (rw (c.to_end.ensures) at c.in-Err.ensures.stopped) c.refuse.ensures
