pub mod Faults
pub mod Lines
pub mod FaultTexts
pub mod Laws
pub mod CanonicalLaws
pub mod Sections
pub mod Texts
