use Rattle.std.proofs.Common.{◌≡◌, ℕ, ◌+◌, ◌<◌, ◌≤◌, get_or, Some, None}
use Rattle.brk_table.proofs.cover.mark.Given as goal

abbrev pub invariant-loop-k : goal.invariant-loop-k
invariant-loop-k l = record {
  inside : (k : ℕ) → l.from ≤ k → k < l.from + l.k → get_or l.cover k None ≡ Some l.line;
  before : (k : ℕ) → k < l.from → get_or l.cover k None ≡ get_or l.initial.cover k None;
  behind : (k : ℕ) → l.from + l.k ≤ k → get_or l.cover k None ≡ get_or l.initial.cover k None;
}
