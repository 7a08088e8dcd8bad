pub mod Bytes
pub mod Numerals
pub mod Symbols
pub mod Laws
pub mod Writing
