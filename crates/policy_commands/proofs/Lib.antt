pub mod Cycles
pub mod Ending
pub mod Answered
pub mod Fitting
