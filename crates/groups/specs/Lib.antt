pub mod Added
pub mod Groups
pub mod FunctionGroups
pub mod Plans
pub mod Sizes
pub mod Code
