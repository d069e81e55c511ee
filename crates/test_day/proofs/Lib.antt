pub mod Digits
pub mod Laws
pub mod Printing
pub mod Seeds
