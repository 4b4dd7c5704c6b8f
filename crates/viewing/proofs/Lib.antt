pub mod Parts
pub mod Lengths
pub mod Verdicts
pub mod Lists
pub mod Walks
pub mod Back
pub mod Main
pub mod One
