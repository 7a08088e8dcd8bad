pub mod Laws
pub mod Meaning
pub mod Renaming
pub mod Numbers
pub mod Promise
pub mod Derivations
