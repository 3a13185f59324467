use Rattle.std.proofs.Common.{◌≡◌}
use Rattle.shared_area.proofs.Picked.{Tagged, tag_in}
use Rattle.shared_area.proofs.steps.SharedCellsCells.plant.Given as goal

abbrev pub ghosts-swap : goal.ghosts-swap
ghosts-swap a = record { then = λ st me w me'. Tagged a.word (tag_in a.new) me.0 me'.0 × (me'.1 ≡ me.1) }
