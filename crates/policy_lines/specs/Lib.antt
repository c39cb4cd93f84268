pub mod Cursors
pub mod FirstWords
pub mod Answered
pub mod Spaces
pub mod Plain
pub mod Laws
