use Rattle.interleave_core.proofs.Drained.{quiet_as}
use Rattle.interleave_core.proofs.theorems.drained_is_quiet_by_law.Goals as goal

pub returns : goal.returns
returns c = λ w parts s world. quiet_as w parts s world
