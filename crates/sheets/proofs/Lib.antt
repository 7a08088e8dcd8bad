pub mod Entering
pub mod Saying
pub mod DecidingLines
pub mod Checking
