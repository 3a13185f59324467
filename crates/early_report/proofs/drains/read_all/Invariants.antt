use Rattle.std.proofs.Common.{◌≡◌, ℕ, ◌<◌, true, List, ◌++◌, length, get_or, take, drop}
use Rattle.cov_base.specs.Meaning.{FactSet}
use Rattle.cov_base.specs.declared.numbers.PlaceNo.{PlaceNo}
use Rattle.module_area.specs.Notes.{Notes}
use Rattle.early_report.specs.Drains.{Reads}
use Rattle.early_report.proofs.drains.read_all.Given as goal

abbrev pub invariant-loop-i : goal.invariant-loop-i
invariant-loop-i g l = record {
  area : g.C.Cells.is_pass l.cells l.pass;
  size : length l.sets ≡ length l.places;
  same : g.C.Cells.notes l.pass ≡ record (g.C.Cells.notes l.initial.pass) { settled = (g.C.Cells.notes l.pass).settled; found = (g.C.Cells.notes l.pass).found };
  reads : (new : Notes) (rest : List FactSet) → Reads (g.C.Cells.plan l.cells) l.s.0 (g.C.Cells.notes l.pass) new (drop l.i l.places) rest →
      Reads (g.C.Cells.plan l.cells) l.s.0 (g.C.Cells.notes l.initial.pass) new l.places (take l.i l.sets ++ rest);
  known : (k : ℕ) (p : PlaceNo) (x : FactSet) → k < l.i → (g.C.Cells.notes l.pass).settled l.s.0 (get_or l.places k p).0 (get_or l.sets k x) ≡ true;
}
