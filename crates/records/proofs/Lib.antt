pub mod Flattened
pub mod Numbers
pub mod Demand
pub mod Pairs
