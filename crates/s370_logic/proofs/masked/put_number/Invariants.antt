use Rattle.std.proofs.Common.{◌≡◌, ◌-◌}
use Rattle.s370_state.specs.Meaning.{store_number}
use Rattle.s370_logic.proofs.masked.put_number.Given as goal

-- what is left to do gives the whole
abbrev pub invariant-loop-i : goal.invariant-loop-i
invariant-loop-i g l = record {
  memory : g.P.Space.memory l.space ≡ g.P.Space.memory l.initial.space;
  bytes : store_number (g.P.Space.bytes l.space) l.at (l.n - l.i) l.rest ≡ store_number (g.P.Space.bytes l.initial.space) l.at l.n l.v;
}
