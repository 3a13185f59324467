use Rattle.std.proofs.Common.{◌≡◌, ◌<◌, ◌^◌}
use Rattle.s370_state.specs.Meaning.{number_at}
use Rattle.s370_logic.proofs.masked.number_of.Given as goal

abbrev pub invariant-loop-i : goal.invariant-loop-i
invariant-loop-i g l = record {
  value : l.v ≡ number_at (g.P.Space.memory l.space) (g.P.Space.bytes l.space) l.at l.i;
  below : l.v < 256 ^ l.i;
}
