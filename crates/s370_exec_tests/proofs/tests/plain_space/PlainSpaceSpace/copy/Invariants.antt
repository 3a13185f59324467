use Rattle.std.proofs.Common.{◌≡◌}
use Rattle.s370_state.specs.Fields.{copied}
use Rattle.s370_exec_tests.specs.Plain.{memory_of}
use Rattle.s370_exec_tests.proofs.tests.plain_space.PlainSpaceSpace.copy.Given as goal

abbrev pub invariant-loop-i : goal.invariant-loop-i
invariant-loop-i l =
    let m = memory_of l.initial.self.size l.initial.self.base l.initial.self.image.items l.initial.self.touches.items in
    record {
      memory : memory_of l.self.size l.self.base l.self.image.items l.self.touches.items ≡ m;
      bytes : l.self.bytes.items ≡ copied m l.initial.self.bytes.items l.to l.from l.i;
    }
