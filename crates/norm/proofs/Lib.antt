-- Sums of finite numbers, the larger magnitude, the edges, and that a maximum of two zeros is one value.
mod Terms
mod Magnitude
pub mod Choice
pub mod Edges
