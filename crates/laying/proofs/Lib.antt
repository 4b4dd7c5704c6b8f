pub mod Lengths
pub mod One
pub mod Encoded
