pub mod Certificates
pub mod Laws
pub mod Priorities
pub mod Kept
pub mod Steps
pub mod Heads
pub mod Peaks
pub mod Standing
