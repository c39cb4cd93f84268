pub mod Views
pub mod Copied
