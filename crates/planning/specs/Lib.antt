pub mod Sets
pub mod Lines
pub mod Report
pub mod Course
