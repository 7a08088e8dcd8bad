mod Samples
pub mod Parts
pub mod Scans
pub mod Readings
pub mod SoundScripts
pub mod Bindings
pub mod Meanings
pub mod Taking
pub mod Operands
pub mod Uses
pub mod Marks
pub mod Reordering
pub mod Agreeing
pub mod Sharing
pub mod Sizes
pub mod Answers
