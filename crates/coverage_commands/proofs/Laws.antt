-- What crates above may cite of this crate's lemmas: the others are its own.
pub use Rattle.coverage_commands.proofs.ReadyLemmas.{one_ready, one_rest, one_number}
