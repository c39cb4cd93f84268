pub mod Net
pub mod Distances
pub mod Walks
pub mod Chains
