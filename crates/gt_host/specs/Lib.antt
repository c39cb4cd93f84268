pub mod HostPorts
pub mod Lookouts
pub mod LastLooks
