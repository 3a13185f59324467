mod RunLemmas
pub mod Laws
