-- Laws that dependents may cite.
pub mod Lists
pub mod Stores
pub mod Fronts
pub mod Parts
pub mod Matrices
pub mod Columns
pub mod Loops
mod Fours
