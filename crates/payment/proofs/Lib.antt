pub mod Amounts
pub mod Answers
pub mod Fractions
pub mod Laws
pub mod Measuring
pub mod Rounding
