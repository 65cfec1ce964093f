pub mod Handed
pub mod Readings
