pub mod Aged
pub mod Following
pub mod Since
