use Rattle.std.proofs.Common.{◌≡◌, drop}
use Rattle.early_report.specs.Drains.{controller_in}
use Rattle.early_report.proofs.drains.controller.Given as goal

abbrev pub invariant-loop-c : goal.invariant-loop-c
invariant-loop-c l = controller_in l.c-items l.s.0 ≡ controller_in (drop l.c-index l.c-items) l.s.0
