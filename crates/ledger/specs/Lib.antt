pub mod Calls
pub mod Promise
pub mod Traders
