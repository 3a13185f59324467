use Rattle.refusals.specs.Codes.{exit_code}
use Rattle.refusals.proofs.Laws.{written_as, told_as}
use Rattle.job_answers.proofs.FileLemmas.{united, ununited}
use Rattle.job_answers.specs.Files.{combine_refusal}
use Rattle.std.proofs.Common.{◌∙◌}
use Rattle.job_answers.proofs.combining.write_union.Goals as goal

pub returns : goal.returns
returns g c = united c.args.bytes.now c.in-Ok.marks _ _ c.in-Ok.ensures.whole (written_as _ _ _ c.write.ensures c.status_of.ensures.whole c.status_of.ensures.failed)

pub returns-in-Err : goal.returns-in-Err
returns-in-Err g c =
    let r = c.refusal in
    ununited c.args.bytes.now c.in-Err.fault _ _ c.in-Err.ensures.fault
    (told_as (exit_code r.inside.reason) r.inside.line.items c.deref.result.now (combine_refusal c.in-Err.fault) _ _ (r.view_is ∙ c.combine_refusal-refusal.ensures) c.deref.ensures.0 c.told.ensures)
