use Rattle.std.proofs.Common.{◌≡◌, ◌<◌, ◌≤◌, true, IfSome}
use Rattle.arrayvec.specs.ArrayVec.{array_vec_len}
use Rattle.cov_base.specs.Meaning.{can_reach}
use Rattle.s370_decimal.specs.Meaning.{worked, formed}
use Rattle.s370_decimal.proofs.pattern.work.Given as goal

abbrev pub invariant-loop-i : goal.invariant-loop-i
invariant-loop-i g l = record {
  value : l.w ≡ worked (g.P.Space.memory l.space) (g.P.Space.bytes l.space) l.a l.b l.i;
  text : l.text.items ≡ formed (g.P.Space.memory l.space) (g.P.Space.bytes l.space) l.a l.b l.i;
  len : array_vec_len l.text ≡ l.i;
  taken : l.w.taken ≤ l.i;
  right : IfSome l.w.right (λ d. d < 16);
  reach : can_reach (g.P.Space.memory l.space) l.b l.w.taken ≡ true;
}
