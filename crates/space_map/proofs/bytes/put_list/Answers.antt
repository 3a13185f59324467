use Rattle.std.proofs.Common.{◌≡◌, ◌+◌, ◌∙◌, refl, sym, arith}
use Rattle.cov_base.specs.Meaning.{wrap}
use Rattle.s370_state.proofs.Laws.{one_stored}
use Rattle.space_map.proofs.SpaceLemmas.{set_length}
use Rattle.space_map.proofs.bytes.put_list.Goals as goal

pub loop-i-preserved : goal.loop-i-preserved
loop-i-preserved c =
    let w : wrap (c.args.a + c.loop-i.i) ≡ c.args.a + c.loop-i.i = omega arith in
    record {
      value = sym (one_stored c.args.bytes.now c.args.a c.args.list.now c.loop-i.i (omega arith) ∙ rw (w, ← c.loop-i.invariant.value) refl);
      filled = set_length c.loop-i.bytes _ _ ∙ c.loop-i.invariant.filled;
    }
