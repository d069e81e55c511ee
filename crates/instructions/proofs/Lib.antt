pub mod Carried
pub mod Delivery
pub mod Due
pub mod EveryList
pub mod Steps
