use Rattle.shared_area.proofs.forks.SharedCellsForks.join.Given as goal

abbrev pub ghosts-merge : goal.ghosts-merge
ghosts-merge a = record { plan = a.self.now.plan; task = 0 }
