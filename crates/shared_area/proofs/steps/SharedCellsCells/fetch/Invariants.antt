use Rattle.shared_area.proofs.steps.SharedCellsCells.fetch.Given as goal

abbrev pub ghosts-cell_at : goal.ghosts-cell_at
ghosts-cell_at a = record { plan = a.self.now.plan; place = a.place.0 }
