mod FactLemmas
mod FactNumbers
mod LengthLemmas
mod NameLemmas
pub mod Laws
