pub mod Buffer
pub mod Columns
pub mod Listing
pub mod Meaning
pub mod Packed
