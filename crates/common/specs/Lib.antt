pub mod Answer
pub mod Fraction
pub mod Lists
pub mod Periods
