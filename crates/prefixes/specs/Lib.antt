pub mod Spelling
pub mod Prefixes
pub mod Sentences
pub mod Laws
pub mod Rows
