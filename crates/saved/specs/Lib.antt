pub mod Saved
pub mod Judging
pub mod Kept
