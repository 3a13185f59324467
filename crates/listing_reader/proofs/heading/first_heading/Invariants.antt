use Rattle.std.proofs.Common.{◌≡◌, ℕ, ◌<◌, [], false, get_or}
use Rattle.listing_reader.specs.Meaning.{is_heading}
use Rattle.listing_reader.proofs.heading.first_heading.Given as goal

abbrev pub invariant-loop-i : goal.invariant-loop-i
invariant-loop-i l = (k : ℕ) → k < l.i → is_heading (get_or l.lines k []) ≡ false
