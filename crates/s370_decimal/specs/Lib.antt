pub mod Kept
pub mod Meaning
pub mod Reached
pub mod Taking
