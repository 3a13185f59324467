use Rattle.std.proofs.Common.{◌≡◌, ◌+◌, ◌++◌, length}
use Rattle.s370_exec.specs.Meaning.{operand}
use Rattle.s370_exec.proofs.calls.put_bytes.Given as goal

abbrev pub invariant-loop-i : goal.invariant-loop-i
invariant-loop-i g l = record {
  output : l.io.output ≡ l.initial.io.output ++ operand (g.P.Space.memory l.space) (g.P.Space.bytes l.space) l.at l.i;
  size : length l.io.output ≡ length l.initial.io.output + l.i;
  input : l.io.input ≡ l.initial.io.input;
  taken : l.io.taken ≡ l.initial.io.taken;
  room : l.io.room ≡ l.initial.io.room;
}
