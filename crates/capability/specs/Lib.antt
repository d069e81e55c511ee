pub mod Capability
pub mod Quantity
