mod Counted
mod Talking
pub mod Ends
