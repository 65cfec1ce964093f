pub mod Norm
pub mod First
