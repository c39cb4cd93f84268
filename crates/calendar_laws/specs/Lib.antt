pub mod Intervals
pub mod Meanings
