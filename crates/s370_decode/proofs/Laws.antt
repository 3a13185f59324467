-- What crates above may cite of this crate's lemmas: the others are its own.
pub use Rattle.s370_decode.proofs.Words.{too_long, short_mnemonics}
