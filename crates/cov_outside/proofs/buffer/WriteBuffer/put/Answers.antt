use Rattle.std.proofs.Common.{drop}
use Rattle.std.proofs.lemmas.List.{take_rest}
use Rattle.cov_outside.proofs.WriteLemmas.{progress_start, progress_more, progress_last, progress_exit, progress_at}
use Rattle.cov_outside.proofs.BufferLemmas.{written_puts, filled}
use Rattle.cov_outside.proofs.buffer.WriteBuffer.put.Goals as goal

pub returns-in_err-flush-clause-put : goal.returns-in_err-flush-clause-put
returns-in_err-flush-clause-put g c =
    let all = filled c.args.self.now c.hold-2.new.held.items c.args.bytes.now c.remaining_capacity-room.result (rw c.self.view_is at c.hold-2.ensures) in
    written_puts c.in_err-flush.ensures.empty
    (progress_exit (drop c.remaining_capacity-room.result c.args.bytes.now) c.from_residual.ensures.0 c.in_err-flush.ensures.written (progress_at all progress_start))

pub returns-clause-put : goal.returns-clause-put
returns-clause-put g c =
    let all = filled c.args.self.now c.hold-2.new.held.items c.args.bytes.now c.remaining_capacity-room.result (rw c.self.view_is at c.hold-2.ensures) in
    written_puts c.in_ok-flush.ensures.empty
    (progress_last (rw (take_rest c.args.bytes.now c.remaining_capacity-room.result) at c.write_all.ensures) (progress_more c.in_ok-flush.ensures.written (progress_at all progress_start)))
