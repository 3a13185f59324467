mod ToldLemmas
pub mod Laws
