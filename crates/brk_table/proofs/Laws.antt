-- What crates above may cite of this crate's lemmas: the others are its own.
pub use Rattle.brk_table.proofs.PlaceLemmas.{is_place-there, one_begins}
pub use Rattle.brk_table.proofs.TouchLemmas.{not_touched}
pub use Rattle.brk_table.proofs.RangeLemmas.{range_most, first-here, count-here, first-past, count-past}
pub use Rattle.brk_table.proofs.Together.{AllMet, all_met}
pub use Rattle.brk_table.proofs.OneTable.{one_table}
pub use Rattle.brk_table.proofs.CodeLemmas.{are_in}
pub use Rattle.brk_table.proofs.DecodedLemmas.{from_next, kept_first}
