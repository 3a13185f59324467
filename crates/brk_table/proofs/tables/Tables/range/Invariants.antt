use Rattle.std.proofs.Common.{◌≤◌, drop}
use Rattle.brk_table.proofs.RangeLemmas.{AtTable}
use Rattle.brk_table.proofs.tables.Tables.range.Given as goal

abbrev pub invariant-loop-i : goal.invariant-loop-i
invariant-loop-i l = record {
  table : AtTable l.self.tables (drop l.i l.self.tables) l.module l.first;
  small : l.first ≤ 65536;
}
