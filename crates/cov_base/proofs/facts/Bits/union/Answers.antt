use Rattle.std.proofs.lemmas.Nat.{or_lt}
use Rattle.cov_base.proofs.FactNumbers.{facts_of_number-bit_or}
use Rattle.cov_base.proofs.facts.Bits.union.Goals as goal

pub invariant_of-result : goal.invariant_of-result
invariant_of-result c = or_lt 3 _ _ c.self.invariant c.o.invariant

pub returns : goal.returns
returns c = rw (← c.self.view_is, ← c.o.view_is) (facts_of_number-bit_or _ _ c.self.invariant c.o.invariant)
