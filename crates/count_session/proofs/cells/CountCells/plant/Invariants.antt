use Rattle.std.proofs.Common.{◌≡◌}
use Rattle.count_session.specs.Rule.{planting}
use Rattle.count_session.proofs.cells.CountCells.plant.Given as goal

abbrev pub ghosts-swap : goal.ghosts-swap
ghosts-swap a = record { then = λ st me w me'. (me'.0 ≡ planting a.word me.0) × (me'.1 ≡ me.1) }
