pub mod Method
pub mod Layout
pub mod Memory
pub mod Lent
