pub mod Hosts
pub mod Tallies
