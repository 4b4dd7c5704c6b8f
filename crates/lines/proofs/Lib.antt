pub mod Decimal
pub mod Ends
pub mod Spelling
pub mod One
pub mod Pens
pub mod Lays
