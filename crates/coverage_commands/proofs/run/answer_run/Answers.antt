use Rattle.std.proofs.Common.{ap, refl}
use Rattle.job_input.specs.declared.words.Command.TheVariants.{Run}
use Rattle.report_text.specs.Meaning.{report_of}
use Rattle.run_reports.specs.Meaning.{Reports}
use Rattle.task_services.specs.Meaning.{course_of}
use Rattle.run_reports.specs.Meaning.{areas_change}
use Rattle.coverage_commands.proofs.AnswerLemmas.{ran, stopped, with_own}
use Rattle.coverage_commands.proofs.run.answer_run.Goals as goal

pub returns-in-Ok : goal.returns-in-Ok
returns-in-Ok g c =
    let ready = rw (c.to_end.ensures) at c.in-Ok.ensures.ready in
    ran (Run c.args.grammar) _ _ _ _ c.in-Ok.ready _ refl refl ready.is ready.input (λ status text h. h)
    (with_own (λ course a. Reports course c.in-Ok.ready.input.job c.in-Ok.ready.tables a (report_of c.in-Ok.ready.input.job c.in-Ok.ready.tables)) (ap course_of c.services.ensures) c.write_report.ensures)

pub returns-in-Err : goal.returns-in-Err
returns-in-Err g c =
    let a = areas_change g.A.Areas.ledger g.A.Areas.finals g.A.Areas.made c.args.areas.now c.args.areas.now in
    stopped (Run c.args.grammar) _ a.before _ _ c.in-Err.refusal refl (rw (c.to_end.ensures) at c.in-Err.ensures.stopped) c.refuse.ensures
