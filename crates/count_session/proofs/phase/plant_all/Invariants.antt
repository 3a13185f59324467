use Rattle.std.proofs.Common.{◌≡◌, ℕ, ◌&&◌, nat_lt}
use Rattle.module_area.specs.Meaning.{window_at}
use Rattle.count_session.specs.Notes.{root_notes}
use Rattle.count_session.specs.Passes.{IsPassOf, notes_of}
use Rattle.count_session.proofs.phase.plant_all.Given as goal

abbrev pub invariant-loop-i : goal.invariant-loop-i
invariant-loop-i l = record {
  area : IsPassOf l.cells l.root;
  same : notes_of l.cells l.root ≡ record root_notes { planted = (notes_of l.cells l.root).planted };
  planted : (p : ℕ) → (notes_of l.cells l.root).planted p ≡ (nat_lt p l.i && nat_lt 0 (window_at l.plan p));
}
