use Rattle.std.proofs.Common.{◌≡◌, ℕ, List, ◌++◌, map, take, drop}
use Rattle.cov_base.specs.declared.numbers.TaskNo.{TaskNo}
use Rattle.module_area.specs.Notes.{Notes}
use Rattle.early_report.specs.Drains.{Begins}
use Rattle.early_report.proofs.drains.note_all.Given as goal

abbrev pub invariant-loop-i : goal.invariant-loop-i
invariant-loop-i g l = record {
  area : g.C.Cells.is_pass l.cells l.pass;
  tasks : map (λ (e : TaskNo × ℕ). e.0) l.entries ≡ map (λ (e : TaskNo × ℕ). e.0) l.initial.entries;
  begins : (new : Notes) (rest : List (TaskNo × ℕ)) → Begins (g.C.Cells.notes l.pass) new (drop l.i (map (λ (e : TaskNo × ℕ). e.0) l.initial.entries)) rest →
      Begins (g.C.Cells.notes l.initial.pass) new (map (λ (e : TaskNo × ℕ). e.0) l.initial.entries) (take l.i l.entries ++ rest);
}
