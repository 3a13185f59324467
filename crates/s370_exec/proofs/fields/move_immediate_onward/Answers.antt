use Rattle.std.proofs.Common.{ap, ◌∙◌}
use Rattle.s370_exec.specs.Meaning.{effect, onward}
use Rattle.s370_exec.proofs.fields.move_immediate_onward.Goals as goal

pub returns : goal.returns
unfolding effect
returns g c = record {
  memory = c.move_immediate-n.ensures.memory;
  effect = λ io link. c.onward.ensures _ io ∙ ap (onward c.args.it.now.next io) c.move_immediate-n.ensures.effect;
}
