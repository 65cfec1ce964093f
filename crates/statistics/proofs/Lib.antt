-- Laws that dependents may cite.
pub mod Counts
