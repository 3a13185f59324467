use Rattle.std.proofs.Common.{◌≡◌}
use Rattle.shared_area.proofs.Picked.{WordNoted, task_at}
use Rattle.shared_area.proofs.drains.SharedCellsDrains.note.Given as goal

abbrev pub ghosts-load : goal.ghosts-load
ghosts-load a = record { then = λ st me w me'. WordNoted (task_at a.self.now.key.value a.word) me.0 w me'.0 × (me'.1 ≡ me.1) }
