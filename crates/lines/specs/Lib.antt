pub mod Tokens
pub mod Parts
pub mod Numbers
