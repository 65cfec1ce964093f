-- Laws that dependents may cite.
pub mod Cases
pub mod Laws
pub mod Own
pub mod Patterns
pub mod Order
pub mod Zeros
pub mod Numbers
pub mod Edges
pub mod Negatives
pub mod Quotients
pub mod Positive
pub mod Halves
pub mod Finite
