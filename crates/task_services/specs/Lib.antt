pub mod Alone
pub mod Ends
pub mod ExitWay
pub mod Meaning
pub mod Published
pub mod ServiceWay
