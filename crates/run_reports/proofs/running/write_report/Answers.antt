use Rattle.std.proofs.Common.{refl}
use Rattle.report_text.specs.Meaning.{report_of}
use Rattle.refusals.specs.Told.{Told, Wanting}
use Rattle.run_reports.specs.Meaning.{areas_change}
use Rattle.run_reports.proofs.ReportLemmas.{reports}
use Rattle.refusals.proofs.Laws.{written_as}
use Rattle.run_reports.proofs.running.write_report.Goals as goal

pub returns : goal.returns
returns g c =
    let j = c.args.job.now in
    let tables = c.args.tables.now in
    let a = areas_change g.A.Areas.ledger g.A.Areas.finals g.A.Areas.made c.args.areas.now c.run_job_with.new.areas in
    let o = c.in-Ok.ran.0 in
    Told 0 _ (refl, reports (g.R.Runner.course c.args.by.now) j tables a o.tasks.items o.sets (report_of j tables) c.in-Ok.ensures.left c.in-Ok.ensures.outcome)
    (written_as _ _ _ c.report.ensures c.status_of.ensures.whole c.status_of.ensures.failed)

pub returns-in-Err : goal.returns-in-Err
returns-in-Err g c = Wanting c.told_no_memory.ensures
