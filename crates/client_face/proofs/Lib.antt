pub mod Calls
pub mod One
