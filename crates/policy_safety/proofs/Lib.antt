pub mod Causing
pub mod Within
pub mod Answering
