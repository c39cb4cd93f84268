pub mod Completing
pub mod Ends
pub mod Links
pub mod Crossing
pub mod Crew
