pub mod Faults
pub mod Incoming
pub mod Inputs
pub mod Meaning
pub mod Tables
pub mod Words
