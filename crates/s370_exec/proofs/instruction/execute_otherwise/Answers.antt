use Rattle.std.proofs.Common.{rules, None, sym, ◌∙◌}
use Rattle.s370_decode.specs.declared.op.Op.TheVariants.{LM, STM, MVI, CLI, TM, MVC, CLC}
use Rattle.s370_exec.specs.Meaning.{effect, link_code}
use Rattle.s370_exec.proofs.Groups.{as_executed}
use Rattle.s370_exec.proofs.instruction.execute_otherwise.Goals as goal

pub returns-in-LM-clause-tries : goal.returns-in-LM-clause-tries
returns-in-LM-clause-tries g c = record {
  memory = c.load_multiple_apart.ensures.memory;
  effect = as_executed _ _ _ _ None LM _ _ (sym c.in-LM.is ∙ c.args.it.now.operates) c.args.it.now.follows (c.load_multiple_apart.ensures.effect _ _);
}

pub returns-in-STM-clause-tries : goal.returns-in-STM-clause-tries
returns-in-STM-clause-tries g c = record {
  memory = c.store_multiple_apart.ensures.memory;
  effect = as_executed _ _ _ _ None STM _ _ (sym c.in-STM.is ∙ c.args.it.now.operates) c.args.it.now.follows (c.store_multiple_apart.ensures.effect _ _);
}

pub returns-in-MVI-clause-tries : goal.returns-in-MVI-clause-tries
returns-in-MVI-clause-tries g c = record {
  memory = c.move_immediate_onward.ensures.memory;
  effect = as_executed _ _ _ _ None MVI _ _ (sym c.in-MVI.is ∙ c.args.it.now.operates) c.args.it.now.follows (c.move_immediate_onward.ensures.effect _ _);
}

pub returns-in-CLI-clause-tries : goal.returns-in-CLI-clause-tries
returns-in-CLI-clause-tries g c = record {
  memory = c.compare_immediate_onward.ensures.memory;
  effect = as_executed _ _ _ _ None CLI _ _ (sym c.in-CLI.is ∙ c.args.it.now.operates) c.args.it.now.follows (c.compare_immediate_onward.ensures.effect _ _);
}

pub returns-in-TM-clause-tries : goal.returns-in-TM-clause-tries
returns-in-TM-clause-tries g c = record {
  memory = c.test_under_mask_onward.ensures.memory;
  effect = as_executed _ _ _ _ None TM _ _ (sym c.in-TM.is ∙ c.args.it.now.operates) c.args.it.now.follows (c.test_under_mask_onward.ensures.effect _ _);
}

pub returns-in-MVC-clause-tries : goal.returns-in-MVC-clause-tries
returns-in-MVC-clause-tries g c = record {
  memory = c.move_characters_apart.ensures.memory;
  effect = as_executed _ _ _ _ None MVC _ _ (sym c.in-MVC.is ∙ c.args.it.now.operates) c.args.it.now.follows (c.move_characters_apart.ensures.effect _ _);
}

pub returns-in-CLC-clause-tries : goal.returns-in-CLC-clause-tries
returns-in-CLC-clause-tries g c = record {
  memory = c.compare_fields_apart.ensures.memory;
  effect = as_executed _ _ _ _ None CLC _ _ (sym c.in-CLC.is ∙ c.args.it.now.operates) c.args.it.now.follows (c.compare_fields_apart.ensures.effect _ _);
}

pub returns-in-BC-clause-tries : goal.returns-in-BC-clause-tries
unfolding effect
returns-in-BC-clause-tries g c = let to = c.branch_on_condition.ensures (link_code c.args.it.now.code None) in record { memory = search rules; effect = search (rules, to) }

pub returns-in-BCT-clause-tries : goal.returns-in-BCT-clause-tries
unfolding effect
returns-in-BCT-clause-tries g c = let to = c.branch_on_count.ensures (link_code c.args.it.now.code None) in record { memory = search rules; effect = search (rules, to) }

pub returns-in-BAL-clause-tries : goal.returns-in-BAL-clause-tries
unfolding effect
returns-in-BAL-clause-tries g c = record { memory = search rules; effect = search rules }
