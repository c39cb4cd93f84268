pub mod Exprs
pub mod Cutting
pub mod Others
pub mod Periods
pub mod Texts
pub mod Made
pub mod MadeCaps
pub mod MadeSets
