mod FoundLinks
pub mod HostLists
