use Rattle.job_answers.proofs.StopLemmas.{no_tables}
use Rattle.job_answers.proofs.ready.read_tables.Goals as goal

pub returns-in-Err-clause-stopped : goal.returns-in-Err-clause-stopped
returns-in-Err-clause-stopped c = λ asked has. rw c.tables_refusal.ensures (no_tables asked c.args.job.now c.in-Err.fault has c.in-Err.ensures.fault)
