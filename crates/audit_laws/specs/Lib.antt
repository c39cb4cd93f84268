pub mod Owners
pub mod Walks
pub mod Denials
pub mod Permits
pub mod Turning
