-- Laws that dependents may cite.
pub mod Magnitudes
pub mod Pivoting
pub mod Exchanges
pub mod Updates
pub mod Progress
pub mod Answers
pub mod Outcomes
pub mod Substitutions
pub mod Triangular
pub mod Regular
pub mod Lengths
