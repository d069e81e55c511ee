pub mod Exact
pub mod Payment
