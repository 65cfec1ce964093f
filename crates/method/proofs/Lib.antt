-- Laws that dependents may cite.
mod Conforms
mod Holds
mod Solving
mod Stages
mod Matrix
mod Partial
mod Columns
mod Jacobian
mod Start
mod Order
mod Standing
pub mod Attempt
mod Turns
