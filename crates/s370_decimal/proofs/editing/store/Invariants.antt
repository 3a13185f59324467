use Rattle.std.proofs.Common.{◌≡◌, take}
use Rattle.s370_state.specs.Meaning.{store_bytes}
use Rattle.s370_decimal.proofs.editing.store.Given as goal

abbrev pub invariant-loop-i : goal.invariant-loop-i
invariant-loop-i g l = record {
  memory : g.P.Space.memory l.space ≡ g.P.Space.memory l.initial.space;
  bytes : g.P.Space.bytes l.space ≡ store_bytes (g.P.Space.bytes l.initial.space) l.a (take l.i l.text);
}
