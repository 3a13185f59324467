-- What crates above may cite of this crate's lemmas: the others are its own.
pub use Rattle.task_services.proofs.RunLemmas.{ran_of}
