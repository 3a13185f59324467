pub mod Answers
pub mod Asked
pub mod Calls
pub mod Checked
pub mod Files
pub mod Meaning
pub mod Ready
