pub mod Requirement
pub mod Stacking
