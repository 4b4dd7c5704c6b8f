pub mod Answers
pub mod SameValues
pub mod One
pub mod Refusals
