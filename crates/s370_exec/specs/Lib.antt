pub mod Does
pub mod Effects
pub mod Fetch
pub mod Meaning
pub mod Solo
