pub mod Sizes
pub mod Commands
pub mod Statuses
pub mod Refusals
pub mod Rows
