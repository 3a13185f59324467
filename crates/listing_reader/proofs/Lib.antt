mod BufferLemmas
mod Digits
mod FaultLemmas
mod PackedLemmas
pub mod Laws
