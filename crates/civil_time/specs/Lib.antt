pub mod Minutes
pub mod Text
pub mod Laws
