pub mod Combine
pub mod FaultView
pub mod Files
pub mod Marks
pub mod Meaning
pub mod Named
pub mod Reading
