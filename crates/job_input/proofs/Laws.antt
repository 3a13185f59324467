-- What crates above may cite of this crate's lemmas: the others are its own.
pub use Rattle.job_input.proofs.OneInput.{came_is, left_is, one_job, came_job, too_many, read_wanting, one_bytes}
pub use Rattle.job_input.proofs.OneTables.{one_tables, one_places}
pub use Rattle.job_input.proofs.TableLemmas.{no_listing_fault}
