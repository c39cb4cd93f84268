pub mod Bodies
pub mod Dependencies
pub mod Minutes
pub mod Walks
