mod CheckedLemmas
mod FileLemmas
mod NamedLemmas
mod OneAnswer
mod ReadyLemmas
mod StopLemmas
pub mod Laws
