use Rattle.std.proofs.Common.{ℕ, Option, drop}
use Rattle.cov_base.specs.declared.numbers.TaskNo.{TaskNo}
use Rattle.module_area.specs.Notes.{Notes}
use Rattle.early_report.specs.Drains.{Polls}
use Rattle.early_report.proofs.drains.first_standing.Given as goal

abbrev pub invariant-loop-i : goal.invariant-loop-i
invariant-loop-i g l = record {
  area : g.C.Cells.is_pass l.cells l.pass;
  polls : (new : Notes) (answer : Option (TaskNo × ℕ)) → Polls (g.C.Cells.notes l.pass) new (drop l.i l.entries) answer → Polls (g.C.Cells.notes l.initial.pass) new (drop l.fn.from l.entries) answer;
}
