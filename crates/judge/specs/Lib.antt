pub mod Judge
pub mod Sender
