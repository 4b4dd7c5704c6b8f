pub mod Points
pub mod Utf8
pub mod Names
pub mod Promises
