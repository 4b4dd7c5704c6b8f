pub mod Matches
pub mod Names
pub mod Lists
pub mod Walk
pub mod Written
pub mod One
