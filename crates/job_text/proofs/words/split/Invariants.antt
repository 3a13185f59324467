use Rattle.std.proofs.Common.{◌≡◌, ◌++◌, map, length}
use Rattle.cov_base.specs.Meaning as text
use Rattle.job_text.proofs.words.split.Given as goal

abbrev pub invariant-loop-at : goal.invariant-loop-at
invariant-loop-at l = map (λ w. w.now) l.words.items ++ text.words l.rest ≡ text.words l.line

abbrev pub decreases-loop-at : goal.decreases-loop-at
decreases-loop-at l = length l.rest
