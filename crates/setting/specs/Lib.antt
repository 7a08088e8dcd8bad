pub mod Cells
pub mod Arrays
pub mod Check
pub mod Interpretation
pub mod Agreement
pub mod Laws
pub mod Code
