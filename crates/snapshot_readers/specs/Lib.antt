pub mod Glances
pub mod Glazed
pub mod Boards
pub mod Viewed
pub mod Viewing
pub mod Guides
pub mod Crew
pub mod Seats
