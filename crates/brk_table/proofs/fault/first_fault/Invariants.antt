use Rattle.brk_table.proofs.Passes.{AtLine}
use Rattle.brk_table.proofs.fault.first_fault.Given as goal
use Rattle.std.proofs.Common.{◌≤◌}

abbrev pub invariant-loop-i : goal.invariant-loop-i
invariant-loop-i l = record {
  at : AtLine l.bytes l.room l.lines l.i l.cover l.before;
  low : l.before ≤ l.i;
}
