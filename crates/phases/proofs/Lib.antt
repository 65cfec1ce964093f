-- Laws that dependents may cite.
pub mod Halts
