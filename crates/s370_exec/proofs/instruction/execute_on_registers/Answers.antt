use Rattle.std.proofs.Common.{rules, None, sym, ap, ◌∙◌}
use Rattle.s370_decode.specs.declared.op.Op.TheVariants.{LR, LTR, LCR, AR, SR, CR}
use Rattle.s370_exec.specs.Meaning.{effect, onward, link_code}
use Rattle.s370_exec.proofs.Groups.{as_executed}
use Rattle.s370_exec.proofs.instruction.execute_on_registers.Goals as goal

pub returns-in-LR-clause-tries : goal.returns-in-LR-clause-tries
unfolding effect
returns-in-LR-clause-tries g c = record {
  memory = c.load_register-n.ensures.memory;
  effect = as_executed _ _ _ _ None LR _ _ (sym c.in-LR.is ∙ c.args.it.now.operates) c.args.it.now.follows (c.onward.ensures _ _ ∙ ap (onward c.args.it.now.next c.args.io.now) c.load_register-n.ensures.effect);
}

pub returns-in-LTR-clause-tries : goal.returns-in-LTR-clause-tries
unfolding effect
returns-in-LTR-clause-tries g c = record {
  memory = c.load_and_test-n.ensures.memory;
  effect = as_executed _ _ _ _ None LTR _ _ (sym c.in-LTR.is ∙ c.args.it.now.operates) c.args.it.now.follows (c.onward-in-LTR.ensures _ _ ∙ ap (onward c.args.it.now.next c.args.io.now) c.load_and_test-n.ensures.effect);
}

pub returns-in-LCR-clause-tries : goal.returns-in-LCR-clause-tries
unfolding effect
returns-in-LCR-clause-tries g c = record {
  memory = c.load_complement-n.ensures.memory;
  effect = as_executed _ _ _ _ None LCR _ _ (sym c.in-LCR.is ∙ c.args.it.now.operates) c.args.it.now.follows (c.onward-in-LCR.ensures _ _ ∙ ap (onward c.args.it.now.next c.args.io.now) c.load_complement-n.ensures.effect);
}

pub returns-in-AR-clause-tries : goal.returns-in-AR-clause-tries
unfolding effect
returns-in-AR-clause-tries g c = record {
  memory = c.add_register-n.ensures.memory;
  effect = as_executed _ _ _ _ None AR _ _ (sym c.in-AR.is ∙ c.args.it.now.operates) c.args.it.now.follows (c.onward-in-AR.ensures _ _ ∙ ap (onward c.args.it.now.next c.args.io.now) c.add_register-n.ensures.effect);
}

pub returns-in-SR-clause-tries : goal.returns-in-SR-clause-tries
unfolding effect
returns-in-SR-clause-tries g c = record {
  memory = c.subtract_register-n.ensures.memory;
  effect = as_executed _ _ _ _ None SR _ _ (sym c.in-SR.is ∙ c.args.it.now.operates) c.args.it.now.follows (c.onward-in-SR.ensures _ _ ∙ ap (onward c.args.it.now.next c.args.io.now) c.subtract_register-n.ensures.effect);
}

pub returns-in-CR-clause-tries : goal.returns-in-CR-clause-tries
unfolding effect
returns-in-CR-clause-tries g c = record {
  memory = c.compare_register-n.ensures.memory;
  effect = as_executed _ _ _ _ None CR _ _ (sym c.in-CR.is ∙ c.args.it.now.operates) c.args.it.now.follows (c.onward-in-CR.ensures _ _ ∙ ap (onward c.args.it.now.next c.args.io.now) c.compare_register-n.ensures.effect);
}

pub returns-in-BCR-clause-tries : goal.returns-in-BCR-clause-tries
unfolding effect
returns-in-BCR-clause-tries g c = let to = c.branch_on_condition_register.ensures (link_code c.args.it.now.code None) in record { memory = search rules; effect = search (rules, to) }

pub returns-in-BCTR-clause-tries : goal.returns-in-BCTR-clause-tries
unfolding effect
returns-in-BCTR-clause-tries g c = let to = c.branch_on_count_register.ensures (link_code c.args.it.now.code None) in record { memory = search rules; effect = search (rules, to) }

pub returns-in-BALR-clause-tries : goal.returns-in-BALR-clause-tries
unfolding effect
returns-in-BALR-clause-tries g c = record { memory = search rules; effect = search rules }
