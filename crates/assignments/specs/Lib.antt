pub mod Tokens
pub mod Seeking
pub mod Statements
pub mod Reading
pub mod Laws
