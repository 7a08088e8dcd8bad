pub mod Operands
pub mod Sources
pub mod Ways
pub mod Repairs
pub mod Settlers
pub mod Laws
pub mod SettlerLaws
pub mod Bench
