use Rattle.std.proofs.Common.{◌≡◌, ℕ, ◌+◌, ◌<◌, ◌≤◌, if◌then◌else◌, length, get_or, slice_index}
use Rattle.brk_table.specs.Meaning.{in_image}
use Rattle.session_book.specs.Meaning.{no_module}
use Rattle.task_ends.proofs.unlisted.count_at.Given as goal

abbrev pub invariant-loop-m : goal.invariant-loop-m
invariant-loop-m l = record {
  size : length l.counts ≡ length l.initial.counts;
  counted : (k : ℕ) → k < l.m → slice_index l.counts k ≡ slice_index l.initial.counts k + (if in_image (get_or l.images k no_module) l.at then 1 else 0);
  left : (k : ℕ) → l.m ≤ k → slice_index l.counts k ≡ slice_index l.initial.counts k;
}
