pub mod Numbers
pub mod Landing
