pub mod Space
pub mod Inside
