-- Laws that the functions' proofs cite. `Conventional` and `Ranges` are for other crates too.
pub mod Conventional
pub mod Ranges
