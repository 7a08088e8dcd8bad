pub mod Words
pub mod Names
pub mod Expressions
pub mod Rules
pub mod Parsing
pub mod Grammar
pub mod Trees
pub mod Laws
