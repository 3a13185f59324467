use Rattle.std.proofs.Common.{refl}
use Rattle.session_marks.specs.FromFile.{set_at}
use Rattle.refusals.specs.Codes.{exit_code}
use Rattle.refusals.specs.Told.{Told}
use Rattle.job_answers.specs.Meaning.{Shown}
use Rattle.job_answers.specs.Ready.{view_of}
use Rattle.refusals.proofs.Laws.{written_as, told_as}
use Rattle.job_answers.proofs.FileLemmas.{unshown}
use Rattle.job_answers.proofs.showing.write_shown.Goals as goal

pub returns-in-Ok : goal.returns-in-Ok
returns-in-Ok g c =
    Told 0 _ (Shown (set_at c.in-Ok.sets.sets) (rw c.deref.ensures.value at c.in-Ok.ensures.file) refl refl) (written_as _ _ _ c.show_text.ensures c.status_of.ensures.whole c.status_of.ensures.failed)

pub returns-in-Err : goal.returns-in-Err
returns-in-Err g c =
    let r = c.refusal in
    unshown (view_of c.args.ready.now) c.in-Err.refusal _ _ (rw c.deref.ensures.value at c.in-Err.ensures.refused)
    (told_as (exit_code r.inside.reason) r.inside.line.items c.deref-in-Err.result.now c.in-Err.refusal _ _ r.view_is c.deref-in-Err.ensures.0 c.told.ensures)
