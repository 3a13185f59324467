-- What crates above may cite of this crate's lemmas: the others are its own.
pub use Rattle.interleave_core.proofs.Follows.{run_stands}
pub use Rattle.interleave_core.proofs.GoneLemmas.{gone_to}
pub use Rattle.interleave_core.proofs.Runs.{run_on-append}
pub use Rattle.interleave_core.proofs.Turns.{controller_in}
