-- Laws that dependents may cite.
pub mod Lengths
pub mod Writes
pub mod Loops
