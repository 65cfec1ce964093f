pub mod Calls
pub mod Readers
pub mod Stepper
pub mod Outcomes
