use Rattle.std.proofs.Common.{false}
use Rattle.cov_base.specs.declared.facts.Fact.TheVariants.{Ran}
use Rattle.shared_area.proofs.drains.SharedCellsDrains.read_set.Given as goal

-- no fact is marked
abbrev pub ghosts-read : goal.ghosts-read
ghosts-read a = record { plan = a.self.now.plan; session = a.s.0; place = a.place.0; fact = Ran; is = λ _. false }
