pub mod Check
pub mod Block
pub mod Sealed
