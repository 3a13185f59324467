mod IncomingLemmas
mod InputLemmas
mod NumberLemmas
mod OneInput
mod OneTables
mod TableLemmas
pub mod Laws
