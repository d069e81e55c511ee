pub mod Opening
pub mod Rule
