-- What crates above may cite of this crate's lemmas: the others are its own.
pub use Rattle.refusals.proofs.ToldLemmas.{written_as, told_text, told_as}
