use Rattle.std.proofs.Common.{◌≡◌, true}
use Rattle.cov_base.specs.Meaning.{can_reach}
use Rattle.s370_exec_tests.specs.Plain.{memory_of}
use Rattle.s370_exec_tests.proofs.tests.plain_space.PlainSpaceSpace.can_reach.Given as goal

abbrev pub invariant-loop-i : goal.invariant-loop-i
invariant-loop-i l = can_reach (memory_of l.self.size l.self.base l.self.image.items l.self.touches.items) l.at l.i ≡ true
