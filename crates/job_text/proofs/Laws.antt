-- What crates above may cite of this crate's lemmas: the others are its own.
pub use Rattle.job_text.proofs.EndedLines.{closed_more, used_all}
pub use Rattle.job_text.proofs.Excluded.{never_bad, not_both, IsFew, listings_few}
pub use Rattle.job_text.proofs.Guards.{guard_none}
pub use Rattle.job_text.proofs.Joined.{read_longer, only_longer, fault_longer}
pub use Rattle.job_text.proofs.Named.{session_added}
pub use Rattle.job_text.proofs.Spans.{no_lines, lines_count}
pub use Rattle.job_text.proofs.Spelled.{one_first}
pub use Rattle.job_text.proofs.Verdicts.{bad_behind}
pub use Rattle.job_text.proofs.WholeJob.{job_keeps}
