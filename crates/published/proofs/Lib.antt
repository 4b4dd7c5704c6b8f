pub mod Numbers
pub mod Files
pub mod Tables
pub mod Lengths
pub mod Main
pub mod One
