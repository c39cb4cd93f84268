pub mod Crossing
pub mod Ending
pub mod Keeping
pub mod Newcomers
pub mod PassLists
pub mod Seated
pub mod Totals
