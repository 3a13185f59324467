use Rattle.std.proofs.Common.{◌≢◌, ℕ, ◌<◌, slice_index_or}
use Rattle.cov_base.specs.declared.numbers.TaskNo.{TaskNo}
use Rattle.module_area.proofs.checked_plan.differ.Given as goal

abbrev pub invariant-loop-n : goal.invariant-loop-n
invariant-loop-n l = (i j : ℕ) (d : TaskNo) → i < j → j < l.n → (slice_index_or l.tasks i d).0 ≢ (slice_index_or l.tasks j d).0
