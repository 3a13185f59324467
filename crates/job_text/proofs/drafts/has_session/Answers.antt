use Rattle.std.proofs.Common.{◌∙◌}
use Rattle.job_text.proofs.DraftNames.{session_found}
use Rattle.job_text.proofs.drafts.has_session.Goals as goal

pub returns : goal.returns
returns c = rw (← c.job.view_is) (c.has.ensures ∙ session_found c.job.inside c.args.name.now c.job.invariant)
