pub mod Segment
pub mod Shown
pub mod Interpolation
