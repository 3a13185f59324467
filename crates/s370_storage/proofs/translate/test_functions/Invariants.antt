use Rattle.std.proofs.Common.{◌≡◌, true}
use Rattle.s370_state.specs.Meaning.{all_reached, touched, touch_ending}
use Rattle.s370_storage.specs.Meaning.{functions}
use Rattle.s370_storage.proofs.translate.test_functions.Given as goal

abbrev pub invariant-loop-i : goal.invariant-loop-i
invariant-loop-i g l = record {
  reached : all_reached (g.P.Space.memory l.space) (functions (g.P.Space.memory l.space) (g.P.Space.bytes l.space) l.a l.t l.i) ≡ true;
  met : l.met ≡ touch_ending (touched (g.P.Space.memory l.space) (functions (g.P.Space.memory l.space) (g.P.Space.bytes l.space) l.a l.t l.i));
}
