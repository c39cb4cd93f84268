pub mod PostLists
pub mod Posts
pub mod Requests
pub mod Tallies
