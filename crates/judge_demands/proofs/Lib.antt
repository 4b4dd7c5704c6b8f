pub mod Main
pub mod Joins
pub mod Steps
pub mod Judged
pub mod Verdicts
pub mod Ours
pub mod OneOutcome
