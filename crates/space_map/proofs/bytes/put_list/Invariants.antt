use Rattle.std.proofs.Common.{◌≡◌, length, take}
use Rattle.s370_state.specs.Meaning.{store_bytes}
use Rattle.space_map.proofs.bytes.put_list.Given as goal

abbrev pub invariant-loop-i : goal.invariant-loop-i
invariant-loop-i l = record {
  value : l.bytes ≡ store_bytes l.initial.bytes l.a (take l.i l.list);
  filled : length l.bytes ≡ length l.initial.bytes;
}
