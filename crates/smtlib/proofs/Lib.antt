pub mod Cuts
pub mod Digits
pub mod Pages
pub mod Searches
pub mod Operators
pub mod Cases
pub mod Told
