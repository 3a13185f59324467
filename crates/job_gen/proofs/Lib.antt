mod CodeLemmas
mod JobLemmas
mod LineLemmas
mod MatchLemmas
pub mod Laws
