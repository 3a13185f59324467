-- What crates above may cite of this crate's lemmas: the others are its own.
pub use Rattle.listing_reader.proofs.Digits.{all_below_false, number_in_more, byte_in_two}
pub use Rattle.listing_reader.proofs.FaultLemmas.{listing_or_fault}
