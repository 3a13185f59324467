mod PlaceLemmas
mod TableLemmas
mod RuleLemmas
mod ModuleLemmas
mod SetsLemmas
mod SessionLemmas
mod OwnLemmas
mod FillLemmas
pub mod Laws
