pub mod Horizons
pub mod Existing
pub mod Answering
pub mod Stepping
pub mod Agreeing
pub mod Unraised
