pub mod Sets
pub mod Walks
pub mod Runs
pub mod Pieces
pub mod Main
pub mod One
pub mod OneOutcome
