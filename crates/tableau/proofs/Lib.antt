-- Laws that dependents may cite.
pub mod Laws
pub mod Fields
pub mod Head
pub mod Deciding
pub mod Accepted
pub mod Written
pub mod Worked
