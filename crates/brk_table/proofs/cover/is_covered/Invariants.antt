use Rattle.std.proofs.Common.{◌≡◌, false}
use Rattle.brk_table.specs.Cover.{is_covered}
use Rattle.brk_table.proofs.cover.is_covered.Given as goal

abbrev pub invariant-loop-k : goal.invariant-loop-k
invariant-loop-k l = is_covered l.cover l.from l.k ≡ false
