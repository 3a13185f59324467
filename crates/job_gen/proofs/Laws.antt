-- What crates above may cite of this crate's lemmas: the others are its own.
pub use Rattle.job_gen.proofs.MatchLemmas.{trial_lines, trial_listing, trial_matches, trial_listing_size}
