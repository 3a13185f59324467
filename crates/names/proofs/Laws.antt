-- What crates above may cite of this crate's lemmas: the others are its own.
pub use Rattle.names.proofs.ListLemmas.{any_found, index_of-map, has-map, none_named, one_named}
