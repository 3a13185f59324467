use Rattle.std.proofs.Common.{◌≡◌}
use Rattle.s370_state.specs.Fields.{words_stored}
use Rattle.s370_exec_tests.specs.Plain.{memory_of}
use Rattle.s370_exec_tests.proofs.tests.plain_space.PlainSpaceSpace.put_words.Given as goal

abbrev pub invariant-loop-i : goal.invariant-loop-i
invariant-loop-i l = record {
  memory : memory_of l.self.size l.self.base l.self.image.items l.self.touches.items ≡ memory_of l.initial.self.size l.initial.self.base l.initial.self.image.items l.initial.self.touches.items;
  bytes : l.self.bytes.items ≡ words_stored l.initial.self.bytes.items l.at l.from l.i;
}
