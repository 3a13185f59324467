use Rattle.std.proofs.Common.{◌≡◌, replicate}
use Rattle.std.specs.List.{AllPass}
use Rattle.listing_reader.specs.Listing.{is_sound}
use Rattle.listing_reader.specs.declared.lines.Line.TheVariants.{Text}
use Rattle.listing_reader.proofs.reader.texts.Given as goal

abbrev pub invariant-loop-k : goal.invariant-loop-k
invariant-loop-k l = (l.read ≡ replicate l._k Text) × AllPass is_sound l.read
