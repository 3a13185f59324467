use Rattle.cov_outside.proofs.Laws.{progress_start, puts_more, puts_last, puts_exit}
use Rattle.evidence_check.proofs.writing.put_evidence.Goals as goal

pub returns-in_err-put : goal.returns-in_err-put
returns-in_err-put g c = puts_exit _ c.from_residual.ensures.0 (rw c.magic.ensures at c.in_err-put.ensures.put) progress_start

pub returns : goal.returns
returns g c = puts_last c.put_modules.ensures (puts_more _ (rw c.magic.ensures at c.in_ok-put.ensures.put) progress_start)
