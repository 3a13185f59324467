use Rattle.std.proofs.Common.{◌+◌, refl, arith}
use Rattle.job_gen.specs.Meaning.{made_listing}
use Rattle.job_gen.proofs.JobLemmas.{short_line}
use Rattle.job_gen.proofs.listing.listing_of.Goals as goal

pub loop-i-init : goal.loop-i-init
unfolding made_listing
loop-i-init c = record { lines = rw (c.in_ok-push.ensures.added, c.new-lines.ensures) refl; at = omega arith }

pub push-requires-in-loop-i : goal.push-requires-in-loop-i
push-requires-in-loop-i c = rw (c.as_slice.ensures.value, c.plain_line-line.ensures) (short_line c.loop-i.at (c.loop-i.i + 1) _ (omega arith))
