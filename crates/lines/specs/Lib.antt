pub mod Decimal
pub mod Hex
pub mod Lines
pub mod Pen
pub mod Spoken
