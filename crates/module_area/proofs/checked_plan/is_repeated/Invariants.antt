use Rattle.std.proofs.Common.{◌≢◌, ℕ, ◌<◌, slice_index_or}
use Rattle.cov_base.specs.declared.numbers.TaskNo.{TaskNo}
use Rattle.module_area.proofs.checked_plan.is_repeated.Given as goal

abbrev pub invariant-loop-i : goal.invariant-loop-i
invariant-loop-i l = (i : ℕ) (d : TaskNo) → i < l.i → (slice_index_or l.tasks i d).0 ≢ (slice_index_or l.tasks l.n d).0
