pub mod Due
pub mod Far
pub mod Order
pub mod Rows
