pub mod Ways
pub mod Lists
pub mod Texts
pub mod Promises
