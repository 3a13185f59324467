-- What crates above may cite of this crate's lemmas: the others are its own.
pub use Rattle.space_map.proofs.Kept.{later_reached, later_untouched, are_kept}
pub use Rattle.space_map.proofs.RowLemmas.{row_range}
pub use Rattle.space_map.proofs.SpaceLemmas.{private_filled-as}
