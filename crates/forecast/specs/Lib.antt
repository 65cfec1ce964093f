pub mod Failing
pub mod Pond
