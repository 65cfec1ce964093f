pub mod Elimination
pub mod Substitution
pub mod Calls
pub mod Lent
