pub mod WordLists
pub mod Complete
pub mod Ways
pub mod Writing
pub mod Lengths
pub mod Samples
