use Rattle.std.proofs.Common.{ap, refl}
use Rattle.job_input.specs.declared.words.Command.TheVariants.{Marks}
use Rattle.run_reports.specs.Meaning.{IsMarksText}
use Rattle.task_services.specs.Meaning.{course_of}
use Rattle.run_reports.specs.Meaning.{areas_change}
use Rattle.coverage_commands.proofs.AnswerLemmas.{ran, stopped, with_own}
use Rattle.coverage_commands.proofs.marks.answer_marks.Goals as goal

pub returns-in-Ok : goal.returns-in-Ok
returns-in-Ok g c =
    let ready = rw (c.to_end.ensures, c.asks_session.ensures) at c.in-Ok.ensures.ready in
    ran (Marks c.args.name c.args.by) _ _ _ _ c.in-Ok.ready _ refl refl ready.is ready.input (λ status text h. h)
    (with_own (λ course. IsMarksText course c.in-Ok.ready.input.job c.in-Ok.ready.tables c.in-Ok.ready.session.0) (ap course_of c.services.ensures) c.write_marks.ensures)

pub returns-in-Err : goal.returns-in-Err
returns-in-Err g c =
    let a = areas_change g.A.Areas.ledger g.A.Areas.finals g.A.Areas.made c.args.areas.now c.args.areas.now in
    stopped (Marks c.args.name c.args.by) _ a.before _ _ c.in-Err.refusal refl (rw (c.to_end.ensures, c.asks_session.ensures) at c.in-Err.ensures.stopped) c.refuse.ensures
