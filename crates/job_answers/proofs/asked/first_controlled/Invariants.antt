use Rattle.std.proofs.Common.{◌≡◌, ◌+◌, drop}
use Rattle.job_answers.specs.Meaning.{first_controlled_from, first_controlled}
use Rattle.job_answers.proofs.asked.first_controlled.Given as goal

abbrev pub invariant-loop-i : goal.invariant-loop-i
invariant-loop-i l = first_controlled_from (l.i + 1) (drop l.i l.job.sessions) ≡ first_controlled l.job
