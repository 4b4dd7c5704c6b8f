pub mod Received
pub mod Sender
