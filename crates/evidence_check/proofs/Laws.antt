-- What crates above may cite of this crate's lemmas: the others are its own.
pub use Rattle.evidence_check.proofs.VerifiedLemmas.{verified_passes}
