-- Laws that the functions' proofs cite. `Choice` has the theorems.
pub mod Choice
