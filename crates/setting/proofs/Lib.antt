pub mod Looks
pub mod Latest
pub mod Checked
pub mod Agreement
pub mod Refusals
pub mod UnusedSlots
