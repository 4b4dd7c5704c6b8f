pub mod Products
pub mod Formula
pub mod Bound
pub mod Whole
pub mod Laws
pub mod Main
pub mod One
