pub mod Saying
pub mod Rules
pub mod Numbers
pub mod Events
pub mod Shore
pub mod Asking
pub mod Deciding
