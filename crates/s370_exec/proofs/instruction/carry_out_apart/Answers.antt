use Rattle.std.proofs.Common.{◌≡◌, ℕ, refl, ap, sym, ◌∙◌}
use Rattle.s370_state.specs.Meaning.{machine_of}
use Rattle.s370_state.specs.declared.endings.Next.TheVariants.{Ended}
use Rattle.s370_decode.specs.Groups.{group_of}
use Rattle.s370_decode.specs.declared.group.Group.TheVariants.{Edit, Call, Supervisor, Missing}
use Rattle.s370_exec.specs.Meaning.{call, onward}
use Rattle.s370_exec.specs.Effects.{effect_of}
use Rattle.s370_exec.proofs.Groups.{as_executed, by_group}
use Rattle.s370_exec.proofs.instruction.carry_out_apart.Goals as goal

pub returns-in-Edit : goal.returns-in-Edit
returns-in-Edit g c =
    let group : group_of c.args.it.now.op ≡ Edit = sym c.group_of.ensures ∙ c.in-Edit.is in
    record {
      memory = c.edit-n.ensures.memory;
      effect = as_executed _ _ _ _ c.args.ex _ _ _ c.args.it.now.operates c.updated-next.ensures
          (c.onward.ensures _ _ ∙ ap (onward c.updated-next.result c.args.io.now) c.edit-n.ensures.effect ∙ sym (by_group _ _ _ _ _ _ _ Edit group));
    }

pub returns-in-Call : goal.returns-in-Call
returns-in-Call g c =
    let group : group_of c.args.it.now.op ≡ Call = sym c.group_of.ensures ∙ c.in-Call.is in
    record {
      memory = c.task_call.ensures.memory;
      effect = as_executed _ _ _ _ c.args.ex _ _ _ c.args.it.now.operates c.updated-next.ensures
          (ap (effect_of c.task_call.new.cpu (g.P.Space.bytes c.task_call.new.space) c.task_call.new.io) c.tell.ensures ∙ c.task_call.ensures.effect
          ∙ ap (λ (n : ℕ). call n c.updated-next.result (g.P.Space.memory c.args.space.now) (machine_of c.args.cpu.now (g.P.Space.bytes c.args.space.now)) c.args.io.now) c.i2.ensures
          ∙ sym (by_group _ _ _ _ _ _ _ Call group));
    }

pub returns-in-Supervisor : goal.returns-in-Supervisor
returns-in-Supervisor g c =
    let group : group_of c.args.it.now.op ≡ Supervisor = sym c.group_of.ensures ∙ c.in-Supervisor.is in
    record {
      memory = refl;
      effect = as_executed _ _ _ _ c.args.ex _ _ _ c.args.it.now.operates c.updated-next.ensures
          (ap (effect_of c.args.cpu.now (g.P.Space.bytes c.args.space.now) c.args.io.now) (c.tell-in-Supervisor.ensures ∙ ap Ended c.privileged.ensures) ∙ sym (by_group _ _ _ _ _ _ _ Supervisor group));
    }

pub returns-in-Missing : goal.returns-in-Missing
returns-in-Missing g c =
    let group : group_of c.args.it.now.op ≡ Missing = sym c.group_of.ensures ∙ c.in-Missing.is in
    record {
      memory = refl;
      effect = as_executed _ _ _ _ c.args.ex _ _ _ c.args.it.now.operates c.updated-next.ensures
          (ap (effect_of c.args.cpu.now (g.P.Space.bytes c.args.space.now) c.args.io.now) c.tell-in-Missing.ensures ∙ sym (by_group _ _ _ _ _ _ _ Missing group));
    }
