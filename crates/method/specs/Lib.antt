pub mod Step
pub mod Schedule
pub mod Conversation
pub mod Turns
