use Rattle.std.proofs.Common.{◌≡◌, ◌+◌, take, drop}
use Rattle.s370_state.specs.Meaning.{store_bytes}
use Rattle.s370_exec.proofs.calls.get_bytes.Given as goal

abbrev pub invariant-loop-i : goal.invariant-loop-i
invariant-loop-i g l = record {
  memory : g.P.Space.memory l.space ≡ g.P.Space.memory l.initial.space;
  bytes : g.P.Space.bytes l.space ≡ store_bytes (g.P.Space.bytes l.initial.space) l.at (take l.i (drop l.initial.io.taken l.initial.io.input));
  io : l.io ≡ record l.initial.io { taken = l.initial.io.taken + l.i };
}
