use Rattle.std.proofs.Common.{◌≡◌, length}
use Rattle.s370_state.specs.Fields.{words_stored}
use Rattle.space_map.proofs.bytes.put_all.Given as goal

abbrev pub invariant-loop-i : goal.invariant-loop-i
invariant-loop-i l = record {
  value : l.bytes ≡ words_stored l.initial.bytes l.a l.words l.i;
  filled : length l.bytes ≡ length l.initial.bytes;
}
