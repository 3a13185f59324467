use Rattle.std.proofs.Common.{◌≡◌, true}
use Rattle.listing_reader.specs.Meaning.{all_below, fits_groups}
use Rattle.listing_reader.proofs.object.are_groups.Given as goal

abbrev pub invariant-loop-k : goal.invariant-loop-k
invariant-loop-k l = all_below (fits_groups l.line l.shift l.columns.object l.groups) l.k ≡ true
