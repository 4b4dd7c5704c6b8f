pub mod Blocks
pub mod Starts
pub mod Answers
pub mod One
pub mod Refusals
