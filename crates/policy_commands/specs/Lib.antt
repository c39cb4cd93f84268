pub mod Ends
pub mod Finding
pub mod Printing
pub mod Policies
pub mod Commands
pub mod Admitting
pub mod Meanings
