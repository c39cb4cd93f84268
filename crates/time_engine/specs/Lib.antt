pub mod Traces
pub mod Plans
pub mod Kept
pub mod Faults
pub mod Histories
