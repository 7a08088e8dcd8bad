pub mod Finished
pub mod Laws
pub mod Bench
pub mod Settings
