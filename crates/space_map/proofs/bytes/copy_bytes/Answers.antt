use Rattle.std.proofs.Common.{◌≡◌, ◌∙◌, sym, arith}
use Rattle.s370_state.proofs.Laws.{copied_inside}
use Rattle.space_map.proofs.SpaceLemmas.{set_length}
use Rattle.space_map.proofs.bytes.copy_bytes.Goals as goal

pub loop-i-preserved : goal.loop-i-preserved
loop-i-preserved c = record {
  value = λ m e. sym (copied_inside m c.args.bytes.now c.loop-i.bytes c.args.a c.args.b c.loop-i.i (c.loop-i.invariant.value m e) (omega (arith, e)) (omega (arith, e)) (omega (arith, e)));
  filled = set_length c.loop-i.bytes _ _ ∙ c.loop-i.invariant.filled;
}

pub returns-clause-value : goal.returns-clause-value
returns-clause-value c = let i : c.loop-i.i ≡ c.args.n = omega arith in λ m e. sym (rw i at (c.loop-i.invariant.value m e))
