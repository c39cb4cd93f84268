pub mod Cycles
pub mod Causes
