pub mod Operators
pub mod Constants
pub mod Methods
pub mod Counter
