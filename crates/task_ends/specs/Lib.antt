pub mod Counting
pub mod Ends
pub mod Held
pub mod Meaning
pub mod Unlisted
