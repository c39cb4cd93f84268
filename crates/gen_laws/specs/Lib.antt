pub mod Made
pub mod Played
pub mod Laws
pub mod Following
