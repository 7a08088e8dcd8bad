pub mod Scripts
pub mod Printed
pub mod Printing
pub mod Sharing
pub mod Meaning
pub mod Code
