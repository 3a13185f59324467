use Rattle.std.proofs.Common.{◌≡◌, map}
use Rattle.std.specs.List.{range_with_len}
use Rattle.job_gen.specs.Meaning.{trial_task}
use Rattle.job_gen.proofs.tasks.tasks_of.Given as goal

abbrev pub invariant-loop-k : goal.invariant-loop-k
invariant-loop-k l = l.tasks.items ≡ map trial_task (range_with_len 1 l.k)
