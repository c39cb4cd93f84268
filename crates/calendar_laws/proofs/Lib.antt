pub mod Nested
pub mod Begins
pub mod Insides
