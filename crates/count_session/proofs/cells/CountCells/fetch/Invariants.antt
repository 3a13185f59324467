use Rattle.std.proofs.Common.{◌≡◌}
use Rattle.count_session.specs.Rule.{Fetched}
use Rattle.count_session.proofs.cells.CountCells.fetch.Given as goal

abbrev pub ghosts-load : goal.ghosts-load
ghosts-load a = record { then = λ st me w me'. Fetched a.self.now.key.value a.word me.0 w me'.0 × (me'.1 ≡ me.1) }
