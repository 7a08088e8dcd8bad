pub mod Settlers
