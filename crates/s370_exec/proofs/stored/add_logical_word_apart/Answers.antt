use Rattle.std.proofs.Common.{ap, ◌∙◌}
use Rattle.s370_exec.specs.Meaning.{effect, onward}
use Rattle.s370_exec.proofs.stored.add_logical_word_apart.Goals as goal

pub returns : goal.returns
unfolding effect
returns g c = record {
  memory = c.add_logical_word-n.ensures.memory;
  effect = λ io link. c.onward.ensures _ io ∙ ap (onward c.args.it.now.next io) c.add_logical_word-n.ensures.effect;
}
