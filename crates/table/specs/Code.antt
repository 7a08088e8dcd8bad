-- How the code goes: what contracts inside the crate say. Nobody needs to believe it: laws connect it with the definitions beside.
pub mod Clashes
pub mod Writing
