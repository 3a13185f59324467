-- What crates above may cite of this crate's lemmas: the others are its own.
pub use Rattle.job_answers.proofs.CheckedLemmas.{judged_verified, own_of}
pub use Rattle.job_answers.proofs.OneAnswer.{one_united, one_shown, one_verdict, one_played}
pub use Rattle.job_answers.proofs.ReadyLemmas.{not_both, any_job, is_free, read_told, status_is, refused_told, ready_or_refused, one_refusal, IsSame, one_marks}
