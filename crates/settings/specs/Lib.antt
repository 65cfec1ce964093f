pub mod Constants
pub mod Valid
pub mod Answers
pub mod Presets
