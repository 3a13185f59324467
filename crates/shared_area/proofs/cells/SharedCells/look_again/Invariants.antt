use Rattle.shared_area.specs.Rule.{is_only}
use Rattle.shared_area.proofs.cells.SharedCells.look_again.Given as goal

abbrev pub ghosts-look_word : goal.ghosts-look_word
ghosts-look_word a = record { plan = a.self.now.plan; session = a.s.0; place = a.place.0; fact = a.fact; is = is_only a.fact }
