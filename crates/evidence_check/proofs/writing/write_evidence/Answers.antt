use Rattle.cov_outside.proofs.Laws.{puts_flushed}
use Rattle.evidence_check.proofs.writing.write_evidence.Goals as goal

pub returns : goal.returns
returns g c = puts_flushed {u = c.in_ok-put_evidence.field-0} (rw c.new-buffer.ensures at c.in_ok-put_evidence.ensures) c.flush.ensures.written
