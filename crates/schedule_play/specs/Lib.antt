pub mod Meaning
pub mod Play
