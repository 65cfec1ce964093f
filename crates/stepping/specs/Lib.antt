pub mod Refusals
pub mod Time
pub mod Dimension
