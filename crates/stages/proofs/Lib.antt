-- Laws that dependents may cite.
pub mod Lengths
pub mod Sums
pub mod Matrix
pub mod Writes
pub mod Agreement
pub mod Ranges
