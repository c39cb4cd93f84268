pub mod Blocking
pub mod OverLaws
pub mod WhoLeads
