use Rattle.refusals.specs.Told.{Wanting}
use Rattle.refusals.proofs.Laws.{told_text}
use Rattle.job_answers.proofs.ending.write_job_ends.Goals as goal

pub returns : goal.returns
returns g c = told_text _ _ _ (c.write_ends.ensures _ _ c.in-Ok.ensures) c.status_of.ensures.whole c.status_of.ensures.failed

pub returns-in-Err : goal.returns-in-Err
returns-in-Err g c = Wanting c.told_no_memory.ensures
