pub mod Explained
pub mod Numbers
pub mod Lines
pub mod Entries
pub mod Searches
pub mod Samples
