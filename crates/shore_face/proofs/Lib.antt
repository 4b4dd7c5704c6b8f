pub mod Steps
pub mod Calls
pub mod Least
pub mod One
