use Rattle.std.proofs.Common.{◌≡◌}
use Rattle.count_session.specs.Rule.{adding}
use Rattle.count_session.proofs.cells.CountCells.add.Given as goal

abbrev pub ghosts-fetch_add : goal.ghosts-fetch_add
ghosts-fetch_add a = record { then = λ st me w me'. (me'.0 ≡ adding a.word me.0) × (me'.1 ≡ me.1) }
