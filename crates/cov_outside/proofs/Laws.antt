-- What crates above may cite of this crate's lemmas: the others are its own.
pub use Rattle.cov_outside.proofs.BufferLemmas.{puts_more, puts_last, puts_exit, puts_flushed}
pub use Rattle.cov_outside.proofs.Pieces.{consumes-trans}
pub use Rattle.cov_outside.proofs.WriteLemmas.{Progress, progress_start, progress_more, progress_last, progress_end, progress_exit}
pub use Rattle.cov_outside.proofs.WriteLemmas.{progress_at}
