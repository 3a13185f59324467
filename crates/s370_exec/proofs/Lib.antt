mod Groups
mod CallBytes
mod CallLemmas
mod Fetching
mod StepLemmas
mod Subjects
mod TraceLemmas
pub mod Laws
