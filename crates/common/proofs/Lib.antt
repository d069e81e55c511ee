pub mod Answers
pub mod Chains
pub mod Lists
pub mod Periods
pub mod Placing
pub mod Tests
