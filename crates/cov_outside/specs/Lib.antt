pub mod Adapters
pub mod Causes
pub mod Meaning
pub mod Memory
pub mod Puts
pub mod Whole
pub mod Writes
