pub mod Climbing
pub mod Places
pub mod Steps
pub mod Prompting
pub mod Waking
