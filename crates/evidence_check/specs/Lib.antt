pub mod Found
pub mod Meaning
pub mod Noting
pub mod Proved
pub mod Verified
pub mod Written
