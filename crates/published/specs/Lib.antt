pub mod Claims
pub mod Comparing
pub mod Promises
