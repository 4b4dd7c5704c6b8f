pub mod Notes
pub mod Cause
pub mod Why
