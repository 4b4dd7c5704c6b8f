pub mod Numbers
pub mod Status
