use Rattle.std.proofs.Common.{◌≡◌, None}
use Rattle.cov_base.specs.Meaning.{first_touch}
use Rattle.s370_exec_tests.specs.Plain.{memory_of}
use Rattle.s370_exec_tests.proofs.tests.plain_space.PlainSpaceSpace.can_read.Given as goal

abbrev pub invariant-loop-i : goal.invariant-loop-i
invariant-loop-i l = first_touch (memory_of l.self.size l.self.base l.self.image.items l.self.touches.items) l.at l.i ≡ None
