pub mod Marks
pub mod Attempt
pub mod Calls
