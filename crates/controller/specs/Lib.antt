pub mod Assess
pub mod Calls
