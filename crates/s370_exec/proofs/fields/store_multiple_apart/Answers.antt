use Rattle.std.proofs.Common.{ap, ◌∙◌}
use Rattle.s370_exec.specs.Meaning.{effect, onward}
use Rattle.s370_exec.proofs.fields.store_multiple_apart.Goals as goal

pub returns-then-store_multiple_own : goal.returns-then-store_multiple_own
unfolding effect
returns-then-store_multiple_own g c = record {
  memory = c.if-store_multiple_own.ensures.memory;
  effect = λ io link. c.onward.ensures _ io ∙ ap (onward c.args.it.now.next io) c.if-store_multiple_own.ensures.effect;
}
