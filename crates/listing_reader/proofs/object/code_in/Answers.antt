use Rattle.std.proofs.Common.{refl}
use Rattle.listing_reader.specs.Meaning.{code_in}
use Rattle.listing_reader.proofs.object.code_in.Goals as goal

pub returns : goal.returns
unfolding code_in
returns c = rw (c.of.ensures, c.byte_of.ensures, c.byte_of-2.ensures, c.byte_of-3.ensures, c.byte_of-4.ensures, c.byte_of-5.ensures, c.byte_of-6.ensures, c.from-n.ensures) refl
