pub mod Complete
pub mod Lines
pub mod Ways
pub mod Running
pub mod Samples
