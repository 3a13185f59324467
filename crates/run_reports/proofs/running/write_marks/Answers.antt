use Rattle.std.proofs.Common.{◌≡◌, true, refl, rules}
use Rattle.marks_file.specs.Meaning.{file_bytes, keeps_rules}
use Rattle.marks_file.specs.declared.version.Version.TheVariants.{Second}
use Rattle.refusals.specs.Told.{Told, Wanting}
use Rattle.run_reports.specs.Meaning.{areas_change}
use Rattle.run_reports.proofs.ReportLemmas.{marked}
use Rattle.refusals.proofs.Laws.{written_as}
use Rattle.run_reports.proofs.running.write_marks.Goals as goal

pub returns : goal.returns
returns g c =
    let a = areas_change g.A.Areas.ledger g.A.Areas.finals g.A.Areas.made c.args.areas.now c.run_job_with.new.areas in
    let o = c.in-Ok-run_job_with in
    let marks = c.fill_marks.new.marks in
    let kept : keeps_rules marks ≡ true = search rules in
    Told 0 (file_bytes Second marks)
    (refl, marked (g.R.Runner.course c.args.by.now) c.args.job.now c.args.tables.now c.args.s.0 a o.outcome.tasks.items o.outcome.sets marks o.ensures.left o.ensures.outcome kept c.fill_marks.ensures)
    (written_as (file_bytes Second marks) c.write.result c.status_of.result c.write.ensures c.status_of.ensures.whole c.status_of.ensures.failed)

pub returns-in_default : goal.returns-in_default
returns-in_default g c = Wanting c.told_no_memory.ensures

pub returns-in_default-run_job_with : goal.returns-in_default-run_job_with
returns-in_default-run_job_with g c = Wanting c.told_no_memory-in_default-run_job_with.ensures
