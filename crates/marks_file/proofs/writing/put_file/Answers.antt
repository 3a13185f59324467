use Rattle.std.proofs.Common.{◌++◌, ap}
use Rattle.cov_outside.proofs.Laws.{progress_start, progress_at, puts_more, puts_last, puts_exit}
use Rattle.marks_file.proofs.FileLemmas.{written_head}
use Rattle.marks_file.proofs.writing.put_file.Goals as goal

pub returns-in_err-put : goal.returns-in_err-put
returns-in_err-put g c =
    puts_exit _ c.from_residual.ensures.0 (rw c.head.ensures at c.in_err-put.ensures.put) (progress_at (ap (λ t. c.args.buffer.now ++ t) (written_head c.args.name c.args.runs c.args.modules.now)) progress_start)

pub returns : goal.returns
returns g c =
    puts_last c.put_modules.ensures (puts_more _ (rw c.head.ensures at c.in_ok-put.ensures.put) (progress_at (ap (λ t. c.args.buffer.now ++ t) (written_head c.args.name c.args.runs c.args.modules.now)) progress_start))
