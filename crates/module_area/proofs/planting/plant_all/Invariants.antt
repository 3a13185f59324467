use Rattle.std.proofs.Common.{◌≡◌}
use Rattle.module_area.specs.Planted.{planted_notes}
use Rattle.module_area.proofs.planting.plant_all.Given as goal

abbrev pub invariant-loop-i : goal.invariant-loop-i
invariant-loop-i g l = record {
  area : g.C.Cells.is_pass l.cells l.pass;
  notes : g.C.Cells.notes l.pass ≡ planted_notes l.plan (g.C.Cells.notes l.initial.pass) l.i;
}
