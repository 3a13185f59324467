use Rattle.std.proofs.Common.{sym}
use Rattle.listing_reader.specs.Meaning.{are_blank}
use Rattle.listing_reader.proofs.Digits.{all_below_false}
use Rattle.listing_reader.proofs.fields.are_blank.Goals as goal

pub returns-then-not-is_blank_at : goal.returns-then-not-is_blank_at
unfolding are_blank
returns-then-not-is_blank_at c = sym (all_below_false _ c.args.count c.loop-k.k (sym c.if-not-is_blank_at.ensures) c.loop-k-test.true)
