pub mod Channels
pub mod Blank
pub mod Calm
pub mod Refusals
pub mod Leaves
pub mod Touches
pub mod Widths
pub mod Garbled
