pub mod Reading
pub mod Said
pub mod Grammar
pub mod Garbled
pub mod Layouts
pub mod Strict
pub mod Tight
