use Rattle.std.proofs.Common.{◌≡◌}
use Rattle.shared_area.proofs.Picked.{Bounded}
use Rattle.shared_area.proofs.drains.SharedCellsDrains.boundary.Given as goal

abbrev pub ghosts-fetch_add : goal.ghosts-fetch_add
ghosts-fetch_add a = record { then = λ st me w me'. Bounded a.k me.0 w me'.0 × (me'.1 ≡ me.1) }
