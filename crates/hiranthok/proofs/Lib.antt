pub mod Across
pub mod Numbers
