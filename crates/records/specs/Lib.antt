pub mod Rows
pub mod Answers
pub mod Laws
pub mod Pairs
