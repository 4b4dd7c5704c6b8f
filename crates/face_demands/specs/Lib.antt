pub mod Tables
pub mod Runs
pub mod Face
pub mod ShoreRuns
pub mod ShoreFace
pub mod Refused
