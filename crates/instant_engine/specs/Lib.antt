pub mod OnTheWay
pub mod TriggerLevels
pub mod Counted
