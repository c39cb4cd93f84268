pub mod Nets
pub mod Making
pub mod Carried
pub mod Levelled
