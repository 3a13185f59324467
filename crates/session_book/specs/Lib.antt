pub mod JobInside
pub mod JobView
pub mod Meaning
pub mod Names
pub mod Results
pub mod Sessions
