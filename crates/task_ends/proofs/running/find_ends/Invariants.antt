use Rattle.std.proofs.Common.{◌≡◌, ℕ, ◌+◌, ◌-◌, ◌<◌, length, get_or, slice_index}
use Rattle.report_text.specs.Meaning.{sum_from}
use Rattle.task_run.specs.declared.task.TaskEnd.{TaskEnd}
use Rattle.task_ends.specs.Meaning.{end_of, unlisted_of}
use Rattle.task_ends.specs.Held.{HasRoom}
use Rattle.task_ends.proofs.RunLemmas.{unlisted_at}
use Rattle.task_ends.proofs.running.find_ends.Given as goal

abbrev pub invariant-loop-t : goal.invariant-loop-t
invariant-loop-t l = record {
  room : HasRoom (length l.job.images) l.t l.counts.items 0 0;
  size : length l.ends.items ≡ l.t;
  ends : (k : ℕ) (d : TaskEnd) → k < l.t → get_or l.ends.items k d ≡ end_of l.job l.tables.places k;
  counts : (m : ℕ) → m < length l.job.images → slice_index l.counts.items m + sum_from (unlisted_at l.job l.tables.places m) l.t (length l.job.tasks - l.t) ≡ unlisted_of l.job l.tables.places m;
}
