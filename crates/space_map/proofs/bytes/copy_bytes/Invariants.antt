use Rattle.std.proofs.Common.{◌≡◌, length}
use Rattle.cov_base.specs.Meaning.{Memory}
use Rattle.s370_state.specs.Fields.{copied}
use Rattle.space_map.proofs.bytes.copy_bytes.Given as goal

abbrev pub invariant-loop-i : goal.invariant-loop-i
invariant-loop-i l = record {
  value : (m : Memory) → m.private ≡ length l.initial.bytes → copied m l.initial.bytes l.a l.b l.i ≡ l.bytes;
  filled : length l.bytes ≡ length l.initial.bytes;
}
