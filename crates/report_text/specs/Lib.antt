pub mod Conditions
pub mod FirstRows
pub mod Meaning
pub mod Sessions
pub mod Told
pub mod Writes
