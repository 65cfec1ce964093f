pub mod Tableau
pub mod File
pub mod Same
