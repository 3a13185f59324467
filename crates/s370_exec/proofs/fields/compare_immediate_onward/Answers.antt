use Rattle.std.proofs.Common.{ap, ◌∙◌}
use Rattle.s370_exec.specs.Meaning.{effect, onward}
use Rattle.s370_exec.proofs.fields.compare_immediate_onward.Goals as goal

pub returns : goal.returns
unfolding effect
returns g c = record {
  memory = c.compare_immediate-n.ensures.memory;
  effect = λ io link. c.onward.ensures _ io ∙ ap (onward c.args.it.now.next io) c.compare_immediate-n.ensures.effect;
}
