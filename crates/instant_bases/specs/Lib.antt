pub mod Timelines
pub mod Nexts
pub mod Remembered
