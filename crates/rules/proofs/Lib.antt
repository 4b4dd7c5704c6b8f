pub mod Rules
pub mod One
pub mod Examples
