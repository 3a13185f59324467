use Rattle.std.proofs.Common.{◌≡◌, take}
use Rattle.s370_state.specs.Meaning.{store_bytes}
use Rattle.s370_exec_tests.specs.Plain.{memory_of}
use Rattle.s370_exec_tests.proofs.tests.plain_space.PlainSpaceSpace.put_slice.Given as goal

abbrev pub invariant-loop-i : goal.invariant-loop-i
invariant-loop-i l = record {
  memory : memory_of l.self.size l.self.base l.self.image.items l.self.touches.items ≡ memory_of l.initial.self.size l.initial.self.base l.initial.self.image.items l.initial.self.touches.items;
  bytes : l.self.bytes.items ≡ store_bytes l.initial.self.bytes.items l.at (take l.i l.from);
}
