pub mod Shut
pub mod SameRoles
