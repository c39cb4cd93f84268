pub mod Days
pub mod Dates
pub mod Stands
pub mod OneCivil
pub mod Texts
