use Rattle.std.proofs.Common.{refl}
use Rattle.listing_reader.specs.Buffer.{buffered_lines}
use Rattle.listing_reader.proofs.BufferLemmas.{empty}
use Rattle.listing_reader.proofs.buffer.ListingLines.new.Goals as goal

pub invariant_of-result : goal.invariant_of-result
invariant_of-result c = rw (c.new.ensures.items, c.new-2.ensures.items, c.new-3.ensures.items) empty

pub returns : goal.returns
unfolding buffered_lines
returns c = rw (c.new.ensures.items, c.new-2.ensures.items, c.new-3.ensures.items) refl
