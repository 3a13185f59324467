use Rattle.std.proofs.Common.{map, refl}
use Rattle.early_report.specs.Meaning.{early_of}
use Rattle.early_report.specs.Text.{drained_of}
use Rattle.task_run.specs.Meaning.{solo}
use Rattle.refusals.specs.Told.{Told, Wanting}
use Rattle.run_reports.specs.Meaning.{areas_change}
use Rattle.run_reports.proofs.ReportLemmas.{reports}
use Rattle.refusals.proofs.Laws.{written_as}
use Rattle.run_reports.proofs.DrainedLemmas.{are_drained}
use Rattle.run_reports.proofs.early.write_drained.Goals as goal

pub returns : goal.returns
returns g c is =
    let j = c.args.job.now in
    let tables = c.args.tables.now in
    let a = areas_change g.A.Areas.ledger g.A.Areas.finals g.A.Areas.made c.args.areas.now c.run_job_with.new.areas in
    let o = c.in-Ok.ran.0 in
    let lists = c.in-Ok.ran.1.items in
    let drained = drained_of j (map (λ v. v.items) lists) in
    Told 0 _ (
      refl,
      record {
        drained = drained;
        are_drained = are_drained (λ v. v.items) j tables.places o.tasks.items o.sets lists is c.in-Ok.ensures.outcome c.in-Ok.ensures.extras;
        reports = reports solo j tables a o.tasks.items o.sets (λ results sets. early_of j tables results sets drained) c.in-Ok.ensures.left c.in-Ok.ensures.outcome;
      },
    )
    (written_as _ _ _ (rw c.deref.ensures.value at c.early.ensures) c.status_of.ensures.whole c.status_of.ensures.failed)

pub returns-in-Err : goal.returns-in-Err
returns-in-Err g c is = Wanting c.told_no_memory.ensures
