pub mod Words
pub mod Told
pub mod Searching
pub mod Judged
pub mod Passing
pub mod Back
pub mod Putting
pub mod One
