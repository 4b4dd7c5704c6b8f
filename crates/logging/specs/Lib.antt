pub mod Input
pub mod Writing
pub mod Lines
pub mod Reading
