use Rattle.cov_outside.proofs.Laws.{progress_start, puts_more, puts_last, puts_exit}
use Rattle.evidence_check.proofs.writing.put_place.Goals as goal

pub returns-in_err-put_fact-2 : goal.returns-in_err-put_fact-2
returns-in_err-put_fact-2 g c =
    puts_exit _ c.from_residual-in_err-put_fact-2.ensures.0 (rw c.get-2.ensures at c.in_err-put_fact-2.ensures) (puts_more _ (rw c.get.ensures at c.in_ok-put_fact.ensures) progress_start)

pub returns : goal.returns
returns g c =
    puts_last (rw c.get-3.ensures at c.put_fact-3.ensures) (puts_more _ (rw c.get-2.ensures at c.in_ok-put_fact-2.ensures) (puts_more _ (rw c.get.ensures at c.in_ok-put_fact.ensures) progress_start))
