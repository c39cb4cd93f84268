pub mod Growing
pub mod Crossing
