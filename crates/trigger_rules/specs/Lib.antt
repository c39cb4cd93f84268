pub mod Indexed
pub mod Indexes
