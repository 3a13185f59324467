use Rattle.std.proofs.Common.{◌++◌, ap}
use Rattle.cov_outside.proofs.Laws.{progress_at, puts_more, puts_exit}
use Rattle.evidence_check.specs.Found.{found_at}
use Rattle.evidence_check.proofs.EntryLemmas.{places_next}
use Rattle.evidence_check.proofs.writing.put_places.Goals as goal

pub returns-in_err-put_place : goal.returns-in_err-put_place
returns-in_err-put_place g c =
    puts_exit _ c.from_residual.ensures.0 c.in_err-put_place.ensures
    (progress_at (ap (λ t. c.loop-n.buffer ++ t) (places_next (found_at c.args.found.now) c.loop-n.n c.args.past c.loop-n-test.true)) c.loop-n.invariant)

pub loop-n-preserved : goal.loop-n-preserved
loop-n-preserved g c =
    puts_more _ c.in_ok-put_place.ensures
    (progress_at (ap (λ t. c.loop-n.buffer ++ t) (places_next (found_at c.args.found.now) c.loop-n.n c.args.past c.loop-n-test.true)) c.loop-n.invariant)
