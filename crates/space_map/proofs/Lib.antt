mod ImageLemmas
mod Ranges
mod RowLemmas
mod Touches
mod Seen
mod Kept
mod SpaceLemmas
pub mod Laws
