use Rattle.shared_area.proofs.forks.SharedCellsForks.split.Given as goal

abbrev pub ghosts-cut : goal.ghosts-cut
ghosts-cut a = record { plan = a.self.now.plan; task = a.task.0 }
