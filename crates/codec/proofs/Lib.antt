-- Laws that dependents may cite.
pub mod Bytes
pub mod Inverse
pub mod Stores
