-- What crates above may cite of this crate's lemmas: the others are its own.
pub use Rattle.report_text.proofs.WriteLemmas.{Progress, progress_start, progress_more, progress_last, progress_end, progress_exit}
pub use Rattle.report_text.proofs.WriteLemmas.{progress_at}
pub use Rattle.report_text.proofs.RowLemmas.{lines_from-next, lines_from-end}
pub use Rattle.report_text.proofs.PlaceFacts.{sum_step}
