pub mod Unpacked
pub mod Own
pub mod Brought
pub mod Small
pub mod ShoreSmall
pub mod One
