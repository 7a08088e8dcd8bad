pub mod Values
pub mod Applied
pub mod Steps
pub mod Code
pub mod Evaluation
pub mod Laws
