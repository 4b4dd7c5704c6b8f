pub mod Counts
pub mod One
