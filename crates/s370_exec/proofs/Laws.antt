-- What crates above may cite of this crate's lemmas: the others are its own.
pub use Rattle.s370_exec.proofs.Groups.{of_effect}
pub use Rattle.s370_exec.proofs.CallLemmas.{subject_call-refused, subject_call-unread, subject_call-read, call_of-unread, call_of-read}
pub use Rattle.s370_exec.proofs.Fetching.{rest_none, code_at-halves}
pub use Rattle.s370_exec.proofs.StepLemmas.{solo_step-refused, solo_step-rest_refused, solo_step-begun, solo_step-execute}
pub use Rattle.s370_exec.proofs.StepLemmas.{subject_step-refused, subject_step-unread, subject_step-begun, solo_step-unread, solo_step-read}
pub use Rattle.s370_exec.proofs.StepLemmas.{solo_step-ex}
pub use Rattle.s370_exec.proofs.Subjects.{modifier-below, first_half-code_at}
pub use Rattle.s370_exec.proofs.TraceLemmas.{solo_step-done, solo_step-visits}
