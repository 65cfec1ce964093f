-- Laws that dependents may cite.
pub mod Lengths
pub mod Requests
pub mod Links
mod Factors
