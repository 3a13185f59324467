use Rattle.std.proofs.Common.{◌∙◌}
use Rattle.job_text.proofs.DraftNames.{phase_found}
use Rattle.job_text.proofs.drafts.has_phase.Goals as goal

pub returns : goal.returns
returns c = rw (← c.job.view_is) (c.has.ensures ∙ phase_found c.job.inside c.args.name.now c.job.invariant)
