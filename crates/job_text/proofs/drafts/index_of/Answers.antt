use Rattle.std.proofs.Common.{◌∙◌}
use Rattle.job_text.proofs.DraftNames.{module_index}
use Rattle.job_text.proofs.drafts.index_of.Goals as goal

pub returns-clause-index : goal.returns-clause-index
returns-clause-index c = rw (← c.job.view_is) (c.index_of.ensures.index ∙ module_index c.job.inside c.args.name.now c.job.invariant)
