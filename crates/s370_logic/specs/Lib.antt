pub mod Bitwise
pub mod Meaning
pub mod Unsigned
