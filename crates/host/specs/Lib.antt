pub mod Answers
pub mod Factors
pub mod Settings
