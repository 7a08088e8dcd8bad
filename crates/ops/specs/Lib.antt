pub mod Numbers
pub mod Signed
pub mod Meaning
pub mod Ranks
pub mod Condition
pub mod Fits
pub mod Laws
