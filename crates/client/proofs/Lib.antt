pub mod Steps
pub mod Asking
pub mod Deciding
pub mod Calls
pub mod One
