use Rattle.std.proofs.Common.{refl}
use Rattle.job_input.specs.declared.words.Command.TheVariants.{Exits}
use Rattle.run_reports.specs.Meaning.{areas_change}
use Rattle.coverage_commands.proofs.AnswerLemmas.{ran, stopped}
use Rattle.coverage_commands.proofs.exits.answer_exits.Goals as goal

pub returns-in-Ok : goal.returns-in-Ok
returns-in-Ok g c =
    let ready = rw (c.to_end.ensures) at c.in-Ok.ensures.ready in
    ran Exits _ _ _ _ c.in-Ok.ready _ refl refl ready.is ready.input (λ status text h. h)
    c.write_report.ensures

pub returns-in-Err : goal.returns-in-Err
returns-in-Err g c =
    let a = areas_change g.A.Areas.ledger g.A.Areas.finals g.A.Areas.made c.args.areas.now c.args.areas.now in
    stopped Exits _ a.before _ _ c.in-Err.refusal refl (rw (c.to_end.ensures) at c.in-Err.ensures.stopped) c.refuse.ensures
