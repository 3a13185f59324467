mod WriteLemmas
mod RowLemmas
mod FirstRowLemmas
mod JobLemmas
mod PlaceFacts
mod RunLemmas
pub mod Laws
