use Rattle.std.proofs.Common.{◌≡◌, true}
use Rattle.cov_base.specs.Meaning.{can_reach}
use Rattle.space_map.specs.Space.{memory_of_space}
use Rattle.space_map.proofs.space.TaskSpace.reach_bytes.Given as goal

abbrev pub invariant-loop-i : goal.invariant-loop-i
invariant-loop-i l = can_reach (memory_of_space l.self) l.at l.i ≡ true
