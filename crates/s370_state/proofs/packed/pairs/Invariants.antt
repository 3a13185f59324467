use Rattle.std.proofs.Common.{◌≡◌, ◌<◌, ◌^◌, true}
use Rattle.std.specs.List.{list_all}
use Rattle.s370_state.specs.Meaning.{is_digit, halves_at, decimal}
use Rattle.s370_state.proofs.packed.pairs.Given as goal

abbrev pub invariant-loop-i : goal.invariant-loop-i
invariant-loop-i g l = record {
  good : list_all is_digit (halves_at (g.P.Space.memory l._from) (g.P.Space.bytes l._from) l.fn.at l.i) ≡ true;
  value : l.v ≡ decimal 0 (halves_at (g.P.Space.memory l._from) (g.P.Space.bytes l._from) l.fn.at l.i);
  below : l.v < 100 ^ l.i;
}
