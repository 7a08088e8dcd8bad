pub mod Scanning
pub mod Spans
pub mod Lines
pub mod NameLines
pub mod Laws
