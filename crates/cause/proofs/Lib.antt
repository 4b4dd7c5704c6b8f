pub mod Notes
pub mod Answers
pub mod Digits
pub mod Pieces
pub mod One
