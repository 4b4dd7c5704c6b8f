pub mod Crossing
pub mod Sending
pub mod Pieces
pub mod One
