use Rattle.std.proofs.Common.{◌≡◌, drop}
use Rattle.early_report.specs.Drains.{from_entry}
use Rattle.early_report.proofs.drains.start.Given as goal

abbrev pub invariant-loop-i : goal.invariant-loop-i
invariant-loop-i l = from_entry l.fn.last l.entries ≡ from_entry l.fn.last (drop l.i l.entries)
