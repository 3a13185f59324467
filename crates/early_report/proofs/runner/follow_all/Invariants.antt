use Rattle.std.proofs.Common.{◌≡◌, ℕ, ◌<◌, ◌≤◌, length, get_or, take}
use Rattle.std.specs.List.{list_any}
use Rattle.early_report.specs.DrainView.{DrainView}
use Rattle.early_report.specs.Drains.{IsLooking}
use Rattle.early_report.specs.Followed.{Went, is_begun}
use Rattle.early_report.proofs.runner.follow_all.Given as goal

abbrev pub invariant-loop-i : goal.invariant-loop-i
invariant-loop-i g l = record {
  area : g.C.Cells.is_pass l.cells l.pass;
  count : length l.drains.items ≡ length l.initial.drains.items;
  looking : IsLooking (g.C.Cells.notes l.initial.pass) (g.C.Cells.notes l.pass);
  rest : (k : ℕ) (d : DrainView) → l.i ≤ k → get_or l.drains.items k d ≡ get_or l.initial.drains.items k d;
  gone : (k : ℕ) (d : DrainView) → k < l.i → Went l.plan (g.C.Cells.notes l.pass) l.closed l.done (get_or l.initial.drains.items k d) (get_or l.drains.items k d);
  waits : l.waits ≡ list_any (λ (d : DrainView). is_begun d.stage) (take l.i l.drains.items);
}
