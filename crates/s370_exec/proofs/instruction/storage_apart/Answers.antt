use Rattle.std.proofs.Common.{ap, sym, ◌∙◌}
use Rattle.s370_decode.specs.declared.group.Group.TheVariants.{Storage}
use Rattle.s370_exec.specs.Meaning.{onward}
use Rattle.s370_exec.proofs.Groups.{by_group}
use Rattle.s370_exec.proofs.instruction.storage_apart.Goals as goal

pub returns : goal.returns
returns g c = record {
  memory = c.storage-n.ensures.memory;
  effect = λ io link. c.onward.ensures _ io ∙ ap (onward c.args.next io) c.storage-n.ensures.effect ∙ sym (by_group _ _ io _ _ _ link Storage c.requires.group);
}
