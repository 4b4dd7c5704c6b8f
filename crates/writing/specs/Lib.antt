pub mod Writing
pub mod ReadBack
