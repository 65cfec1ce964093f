-- Laws that dependents may cite.
pub mod Answers
pub mod Refusals
pub mod Dimension
