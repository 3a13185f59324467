use Rattle.job_answers.proofs.ReadyLemmas.{any_job}
use Rattle.job_answers.proofs.asked.asked_session.Goals as goal

pub returns-in-AnyJob-clause-asked : goal.returns-in-AnyJob-clause-asked
returns-in-AnyJob-clause-asked c = rw c.in-AnyJob.is (any_job _)
