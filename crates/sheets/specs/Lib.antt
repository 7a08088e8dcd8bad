pub mod Marks
pub mod Check
pub mod Deciding
pub mod Code
pub mod Laws
