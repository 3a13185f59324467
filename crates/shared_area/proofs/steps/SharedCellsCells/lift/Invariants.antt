use Rattle.std.proofs.Common.{◌≡◌}
use Rattle.shared_area.specs.Rule.{Lifted}
use Rattle.shared_area.proofs.Picked.{session_in}
use Rattle.shared_area.proofs.steps.SharedCellsCells.lift.Given as goal

abbrev pub ghosts-compare_exchange : goal.ghosts-compare_exchange
ghosts-compare_exchange a = record { then = λ st me w me'. Lifted (session_in a.old) a.word a.old me.0 w me'.0 × (me'.1 ≡ me.1) }
