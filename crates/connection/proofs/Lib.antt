pub mod Views
pub mod Putting
pub mod Places
pub mod Frame
pub mod Acts
pub mod One
