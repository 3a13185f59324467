use Rattle.std.proofs.Common.{◌≡◌, take}
use Rattle.module_area.specs.Control.{after_closes}
use Rattle.module_area.proofs.sessions.close_places.Given as goal

abbrev pub invariant-loop-place : goal.invariant-loop-place
invariant-loop-place g l = record {
  area : g.C.Cells.is_pass l.cells l.pass;
  notes : g.C.Cells.notes l.pass ≡ after_closes (g.C.Cells.notes l.initial.pass) l.s.0 (take l.place-index l.places);
}
