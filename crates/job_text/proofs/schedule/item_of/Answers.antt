use Rattle.std.proofs.Common.{◌∙◌, sym, refl}
use Rattle.job_text.proofs.ItemLemmas.{parted, alone}
use Rattle.job_text.proofs.schedule.item_of.Goals as goal

pub returns-else-is : goal.returns-else-is
returns-else-is c = sym (alone c.args.job.now c.args.line.now (sym c.in-None.ensures) ∙ (rw (← c.is.ensures, c.if-is.false) refl))

pub returns-in-Some : goal.returns-in-Some
returns-in-Some c = c.task_item.ensures ∙ parted c.args.job.now c.args.line.now c.split_at.result.0.now c.split_at.result.1.now c.in-Some.at (sym c.in-Some.ensures) c.split_at.ensures.front c.split_at.ensures.back
