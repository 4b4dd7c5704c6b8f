pub mod Laws
pub mod Asking
pub mod Calls
pub mod Deciding
pub mod Least
pub mod One
