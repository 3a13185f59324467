use Rattle.std.proofs.Common.{◌≡◌}
use Rattle.s370_state.specs.Fields.{copied}
use Rattle.space_map.specs.Space.{memory_of_space}
use Rattle.space_map.proofs.space.TaskSpace.copy_by_bytes.Given as goal

abbrev pub invariant-loop-i : goal.invariant-loop-i
invariant-loop-i l = record {
  memory : memory_of_space l.self ≡ memory_of_space l.initial.self;
  bytes : l.self.bytes ≡ copied (memory_of_space l.initial.self) l.initial.self.bytes l.to l.from l.i;
}
