use Rattle.std.proofs.Common.{ap, ◌∙◌}
use Rattle.s370_exec.specs.Meaning.{effect, onward}
use Rattle.s370_exec.proofs.fields.compare_fields_apart.Goals as goal

pub returns-then-compare_fields_own : goal.returns-then-compare_fields_own
unfolding effect
returns-then-compare_fields_own g c = record {
  memory = c.if-compare_fields_own.ensures.memory;
  effect = λ io link. c.onward.ensures _ io ∙ ap (onward c.args.it.now.next io) c.if-compare_fields_own.ensures.effect;
}
