pub mod Fractions
pub mod Formula
pub mod Weights
pub mod Promises
