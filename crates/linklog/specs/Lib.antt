pub mod Records
pub mod Written
pub mod Appending
pub mod Reading
pub mod TakenBack
pub mod Taking
pub mod Turns
pub mod Promises
