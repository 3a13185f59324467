use Rattle.std.proofs.Common.{◌≡◌, None}
use Rattle.cov_base.specs.Meaning.{first_touch}
use Rattle.space_map.specs.Space.{memory_of_space}
use Rattle.space_map.proofs.space.TaskSpace.read_bytes.Given as goal

abbrev pub invariant-loop-i : goal.invariant-loop-i
invariant-loop-i l = first_touch (memory_of_space l.self) l.at l.i ≡ None
