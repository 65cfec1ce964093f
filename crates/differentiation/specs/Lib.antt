pub mod Differences
pub mod Memory
