use Rattle.std.proofs.Common.{◌∙◌, ap, option_map}
use Rattle.cov_base.specs.declared.numbers.SessNo.{SessNo}
use Rattle.job_answers.proofs.NamedLemmas.{number_is}
use Rattle.job_answers.proofs.asked.find_session.Goals as goal

pub returns-clause-value : goal.returns-clause-value
returns-clause-value c = ap (λ o. option_map (λ (s : SessNo). s.0) o) c.session_named.ensures.value ∙ number_is c.args.job.now c.args.name.now
