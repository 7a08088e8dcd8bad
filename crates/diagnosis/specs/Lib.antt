pub mod Telling
pub mod Asking
pub mod Reasons
pub mod Spots
pub mod Laws
