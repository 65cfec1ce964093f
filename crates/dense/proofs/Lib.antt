-- Laws that dependents may cite, and the ends.
pub mod Rows
pub mod Answers
pub mod Ends
pub mod Edges
