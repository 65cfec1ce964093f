-- The theorem, and what it is put together from.
mod Closed
mod Probing
mod Controller
pub mod Theorem
