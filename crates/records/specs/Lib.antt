pub mod Records
pub mod Desk
pub mod Walks
pub mod Items
pub mod Pdus
