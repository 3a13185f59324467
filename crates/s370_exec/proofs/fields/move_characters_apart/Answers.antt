use Rattle.std.proofs.Common.{ap, ◌∙◌}
use Rattle.s370_exec.specs.Meaning.{effect, onward}
use Rattle.s370_exec.proofs.fields.move_characters_apart.Goals as goal

pub returns-then-move_characters_own : goal.returns-then-move_characters_own
unfolding effect
returns-then-move_characters_own g c = record {
  memory = c.if-move_characters_own.ensures.memory;
  effect = λ io link. c.onward.ensures _ io ∙ ap (onward c.args.it.now.next io) c.if-move_characters_own.ensures.effect;
}
