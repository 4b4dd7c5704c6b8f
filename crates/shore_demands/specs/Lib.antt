pub mod Runs
pub mod Alone
pub mod Rows
pub mod Refused
pub mod Orders
pub mod Cut
pub mod Demands
