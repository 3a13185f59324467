-- What crates above may cite of this crate's lemmas: the others are its own.
pub use Rattle.session_marks.proofs.SessionLemmas.{own_same, sets_one}
pub use Rattle.session_marks.proofs.FillLemmas.{are_there}
