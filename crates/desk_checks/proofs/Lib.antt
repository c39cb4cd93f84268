pub mod PostFacts
pub mod Pushes
