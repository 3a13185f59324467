use Rattle.std.proofs.Common.{◌≡◌, ◌+◌, true}
use Rattle.listing_reader.specs.Meaning.{all_below, is_blank_at}
use Rattle.listing_reader.proofs.fields.are_blank.Given as goal

abbrev pub invariant-loop-k : goal.invariant-loop-k
invariant-loop-k l = all_below (λ k. is_blank_at l.line l.shift (l.from + k)) l.k ≡ true
