pub mod Scan
pub mod Sketch
pub mod Reading
pub mod Drafts
pub mod Printed
pub mod Grammar
pub mod Laws
