pub mod Passes
pub mod Rule
pub mod Sets
pub mod Told
pub mod Words
