pub mod Decoded
pub mod Groups
pub mod Meaning
pub mod Mnemonics
