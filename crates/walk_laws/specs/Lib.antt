pub mod Bare
pub mod Depending
pub mod Laws
pub mod Rivals
