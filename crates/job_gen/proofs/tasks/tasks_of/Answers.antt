use Rattle.std.proofs.Common.{◌+◌, arith, sym}
use Rattle.std.proofs.lemmas.List.FromFn.{map-range_with_len_more}
use Rattle.job_gen.specs.Meaning.{trial_task}
use Rattle.job_gen.proofs.tasks.tasks_of.Goals as goal

pub loop-k-preserved : goal.loop-k-preserved
loop-k-preserved c = rw (c.in_ok-push.ensures.items, c.loop-k.invariant, c.task.ensures) (sym (map-range_with_len_more trial_task 1 c.loop-k.k (c.loop-k.k + 1) (omega arith)))
