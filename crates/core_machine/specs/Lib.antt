pub mod Books
pub mod Coherent
pub mod Steps
pub mod Agreeing
pub mod Ledgers
