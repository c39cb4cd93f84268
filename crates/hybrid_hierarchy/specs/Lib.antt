pub mod Nets
pub mod Searches
pub mod Lasting
