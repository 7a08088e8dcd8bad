pub mod Reasons
pub mod Contexts
