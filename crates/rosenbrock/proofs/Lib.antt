-- Laws that dependents may cite.
pub mod Guards
pub mod Lengths
pub mod Memory
pub mod Readers
mod Nexts
mod Makings
mod Stops
mod Attempts
