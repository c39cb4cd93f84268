pub mod ByWalks
pub mod OfMembers
pub mod Opening
