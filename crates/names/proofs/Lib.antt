mod ListLemmas
pub mod Laws
