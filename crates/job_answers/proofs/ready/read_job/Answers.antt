use Rattle.job_answers.proofs.StopLemmas.{not_come}
use Rattle.job_answers.proofs.ready.read_job.Goals as goal

pub returns-in-Err-clause-stopped : goal.returns-in-Err-clause-stopped
returns-in-Err-clause-stopped g c = λ asked. rw c.input_refusal.ensures (not_come c.args.form asked _ c.in-Err.fault c.in-Err.ensures.fault)
