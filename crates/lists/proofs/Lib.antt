pub mod Cases
pub mod Places
pub mod Laid
pub mod Lent
pub mod Cuts
pub mod Moving
pub mod Arrays
pub mod One
