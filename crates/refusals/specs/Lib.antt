pub mod Codes
pub mod Meaning
pub mod Refusals
pub mod Told
