pub mod Framings
pub mod Records
pub mod Walks
pub mod Turns
pub mod Runs
pub mod One
