pub mod Widths
pub mod Signs
pub mod One
