pub mod Words
pub mod Numbers
pub mod Main
pub mod One
