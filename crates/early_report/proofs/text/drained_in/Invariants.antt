use Rattle.std.proofs.Common.{◌≡◌, drop}
use Rattle.early_report.specs.Text.{drained_in}
use Rattle.early_report.proofs.text.drained_in.Given as goal

abbrev pub invariant-loop-drain : goal.invariant-loop-drain
invariant-loop-drain l = drained_in l.drains l.s.0 ≡ drained_in (drop l.drain-index l.drains) l.s.0
