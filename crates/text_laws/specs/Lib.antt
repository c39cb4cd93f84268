pub mod Rests
pub mod Lengths
pub mod Texts
pub mod Made
