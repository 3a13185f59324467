use Rattle.std.proofs.Common.{refl}
use Rattle.listing_reader.specs.Packed.{lines_in}
use Rattle.listing_reader.proofs.listing.Listing.new.Goals as goal

pub returns : goal.returns
unfolding lines_in
returns c = rw (c.new.ensures.items, c.new-2.ensures.items, c.in_ok-ordinals.ensures.items) refl
