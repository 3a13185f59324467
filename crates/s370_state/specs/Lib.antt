pub mod Answers
pub mod Fields
pub mod Io
pub mod Meaning
pub mod Parts
pub mod Row
pub mod Halves
