pub mod Crossing
pub mod Landing
