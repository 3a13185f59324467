use Rattle.std.proofs.Common.{rules, None, sym, ap, ◌∙◌}
use Rattle.s370_decode.specs.declared.op.Op.TheVariants.{ST, LH, STH, A, AH, S, SH, AL, SL, C, CH, IC, STC}
use Rattle.s370_exec.specs.Meaning.{effect, onward}
use Rattle.s370_exec.proofs.Groups.{as_executed}
use Rattle.s370_exec.proofs.instruction.execute_with_index.Goals as goal

pub returns-in-LA-clause-tries : goal.returns-in-LA-clause-tries
unfolding effect
returns-in-LA-clause-tries g c = record { memory = search rules; effect = search rules }

pub returns-in-L-clause-tries : goal.returns-in-L-clause-tries
unfolding effect
returns-in-L-clause-tries g c = record { memory = search rules; effect = search rules }

pub returns-in-ST-clause-tries : goal.returns-in-ST-clause-tries
unfolding effect
returns-in-ST-clause-tries g c = record {
  memory = c.store_word-n.ensures.memory;
  effect = as_executed _ _ _ _ None ST _ _ (sym c.in-ST.is ∙ c.args.it.now.operates) c.args.it.now.follows (c.onward-in-ST.ensures _ _ ∙ ap (onward c.args.it.now.next c.args.io.now) c.store_word-n.ensures.effect);
}

pub returns-in-LH-clause-tries : goal.returns-in-LH-clause-tries
returns-in-LH-clause-tries g c = record {
  memory = c.load_half_onward.ensures.memory;
  effect = as_executed _ _ _ _ None LH _ _ (sym c.in-LH.is ∙ c.args.it.now.operates) c.args.it.now.follows (c.load_half_onward.ensures.effect _ _);
}

pub returns-in-STH-clause-tries : goal.returns-in-STH-clause-tries
returns-in-STH-clause-tries g c = record {
  memory = c.store_half_onward.ensures.memory;
  effect = as_executed _ _ _ _ None STH _ _ (sym c.in-STH.is ∙ c.args.it.now.operates) c.args.it.now.follows (c.store_half_onward.ensures.effect _ _);
}

pub returns-in-A-clause-tries : goal.returns-in-A-clause-tries
returns-in-A-clause-tries g c = record {
  memory = c.add_word_onward.ensures.memory;
  effect = as_executed _ _ _ _ None A _ _ (sym c.in-A.is ∙ c.args.it.now.operates) c.args.it.now.follows (c.add_word_onward.ensures.effect _ _);
}

pub returns-in-AH-clause-tries : goal.returns-in-AH-clause-tries
returns-in-AH-clause-tries g c = record {
  memory = c.add_half_apart.ensures.memory;
  effect = as_executed _ _ _ _ None AH _ _ (sym c.in-AH.is ∙ c.args.it.now.operates) c.args.it.now.follows (c.add_half_apart.ensures.effect _ _);
}

pub returns-in-S-clause-tries : goal.returns-in-S-clause-tries
returns-in-S-clause-tries g c = record {
  memory = c.subtract_word_apart.ensures.memory;
  effect = as_executed _ _ _ _ None S _ _ (sym c.in-S.is ∙ c.args.it.now.operates) c.args.it.now.follows (c.subtract_word_apart.ensures.effect _ _);
}

pub returns-in-SH-clause-tries : goal.returns-in-SH-clause-tries
returns-in-SH-clause-tries g c = record {
  memory = c.subtract_half_apart.ensures.memory;
  effect = as_executed _ _ _ _ None SH _ _ (sym c.in-SH.is ∙ c.args.it.now.operates) c.args.it.now.follows (c.subtract_half_apart.ensures.effect _ _);
}

pub returns-in-AL-clause-tries : goal.returns-in-AL-clause-tries
returns-in-AL-clause-tries g c = record {
  memory = c.add_logical_word_apart.ensures.memory;
  effect = as_executed _ _ _ _ None AL _ _ (sym c.in-AL.is ∙ c.args.it.now.operates) c.args.it.now.follows (c.add_logical_word_apart.ensures.effect _ _);
}

pub returns-in-SL-clause-tries : goal.returns-in-SL-clause-tries
returns-in-SL-clause-tries g c = record {
  memory = c.subtract_logical_word_apart.ensures.memory;
  effect = as_executed _ _ _ _ None SL _ _ (sym c.in-SL.is ∙ c.args.it.now.operates) c.args.it.now.follows (c.subtract_logical_word_apart.ensures.effect _ _);
}

pub returns-in-C-clause-tries : goal.returns-in-C-clause-tries
returns-in-C-clause-tries g c = record {
  memory = c.compare_word_apart.ensures.memory;
  effect = as_executed _ _ _ _ None C _ _ (sym c.in-C.is ∙ c.args.it.now.operates) c.args.it.now.follows (c.compare_word_apart.ensures.effect _ _);
}

pub returns-in-CH-clause-tries : goal.returns-in-CH-clause-tries
returns-in-CH-clause-tries g c = record {
  memory = c.compare_half_apart.ensures.memory;
  effect = as_executed _ _ _ _ None CH _ _ (sym c.in-CH.is ∙ c.args.it.now.operates) c.args.it.now.follows (c.compare_half_apart.ensures.effect _ _);
}

pub returns-in-IC-clause-tries : goal.returns-in-IC-clause-tries
returns-in-IC-clause-tries g c = record {
  memory = c.insert_character_onward.ensures.memory;
  effect = as_executed _ _ _ _ None IC _ _ (sym c.in-IC.is ∙ c.args.it.now.operates) c.args.it.now.follows (c.insert_character_onward.ensures.effect _ _);
}

pub returns-in-STC-clause-tries : goal.returns-in-STC-clause-tries
returns-in-STC-clause-tries g c = record {
  memory = c.store_character_onward.ensures.memory;
  effect = as_executed _ _ _ _ None STC _ _ (sym c.in-STC.is ∙ c.args.it.now.operates) c.args.it.now.follows (c.store_character_onward.ensures.effect _ _);
}
