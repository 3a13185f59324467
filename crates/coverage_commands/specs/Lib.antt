pub mod Calls
pub mod Changes
pub mod Meaning
pub mod Words
