use Rattle.std.proofs.Common.{◌∙◌}
use Rattle.job_text.proofs.DraftNames.{module_found}
use Rattle.job_text.proofs.drafts.has_module.Goals as goal

pub returns : goal.returns
returns c = rw (← c.job.view_is) (c.has.ensures ∙ module_found c.job.inside c.args.name.now c.job.invariant)
