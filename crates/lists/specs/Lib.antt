pub mod Places
pub mod Bytes
pub mod Lines
