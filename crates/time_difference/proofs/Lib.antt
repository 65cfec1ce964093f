-- Laws that the proofs cite.
pub mod Neighbours
pub mod Choice
