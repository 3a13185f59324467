pub mod Fields
pub mod Filled
pub mod FromFile
pub mod Marking
pub mod Meaning
