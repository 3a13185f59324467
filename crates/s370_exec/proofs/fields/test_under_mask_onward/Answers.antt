use Rattle.std.proofs.Common.{ap, ◌∙◌}
use Rattle.s370_exec.specs.Meaning.{effect, onward}
use Rattle.s370_exec.proofs.fields.test_under_mask_onward.Goals as goal

pub returns : goal.returns
unfolding effect
returns g c = record {
  memory = c.test_under_mask-n.ensures.memory;
  effect = λ io link. c.onward.ensures _ io ∙ ap (onward c.args.it.now.next io) c.test_under_mask-n.ensures.effect;
}
