pub mod EveryCall
pub mod Instructing
pub mod MachineBytes
pub mod PairBytes
pub mod Paying
pub mod TestDay
