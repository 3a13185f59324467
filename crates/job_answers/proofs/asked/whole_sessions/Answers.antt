use Rattle.std.proofs.Common.{sym}
use Rattle.job_answers.specs.Answers.{NoJob}
use Rattle.job_answers.specs.Meaning.{Controlled}
use Rattle.job_answers.proofs.asked.whole_sessions.Goals as goal

pub returns-in-Some-clause-stopped : goal.returns-in-Some-clause-stopped
returns-in-Some-clause-stopped c = λ form s came. NoJob came.bytes came.came (Controlled c.args.job.now c.in-Some.session.0 came.has (sym c.in-Some.ensures.value) c.controlled.ensures)
