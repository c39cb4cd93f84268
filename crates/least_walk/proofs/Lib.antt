pub mod Items
pub mod Spreading
pub mod Stepping
pub mod Descending
pub mod Reachable
pub mod Chaining
