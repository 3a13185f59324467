-- What crates above may cite of this crate's lemmas: the others are its own.
pub use Rattle.marks_file.proofs.Parts.{is_place, is_module, is_session_name}
pub use Rattle.marks_file.proofs.MarksLemmas.{same_cons, same_append, marks_have_rows, marks_count, kept_modules}
pub use Rattle.marks_file.proofs.FieldLemmas.{first_none, first_some, none_left, none_right, all_good, whole}
pub use Rattle.marks_file.proofs.SpellLemmas.{set_read}
pub use Rattle.marks_file.proofs.FileLemmas.{one_table, same_marks, file_found, one_modules, marks_found, one_end}
pub use Rattle.marks_file.proofs.AnswerLemmas.{one_answer}
pub use Rattle.marks_file.proofs.DifferenceLemmas.{none_differs}
pub use Rattle.marks_file.proofs.LawLemmas.{files_turned}
pub use Rattle.marks_file.proofs.UnionLemmas.{same_tables, small_number, length-unite_places, length-unite, union_is_marks}
pub use Rattle.marks_file.proofs.UnionLemmas.{marks_places}
