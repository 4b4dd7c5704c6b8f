pub mod Times
pub mod One
