-- What crates above may cite of this crate's lemmas: the others are its own.
pub use Rattle.cov_base.proofs.FactLemmas.{same_fact-self, same_fact-true, same_fact-turned, has_fact-none, has_fact-with_fact}
pub use Rattle.cov_base.proofs.FactLemmas.{with_fact-here, with_fact-more, with_fact-cases, has_fact-union, same_sets}
pub use Rattle.cov_base.proofs.FactLemmas.{is_of_kind-fact_of, has_fact-full_of, within_none, within_kind, is_full-true}
pub use Rattle.cov_base.proofs.LengthLemmas.{length_of-cases, length_of-least}
pub use Rattle.cov_base.proofs.NameLemmas.{no_blank, unpadded-padded}
