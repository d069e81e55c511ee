pub mod Entry
pub mod Kept
pub mod Laws
pub mod Openings
pub mod NextPeriod
pub mod Zeros
