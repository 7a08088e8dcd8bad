pub mod GroupSizes
pub mod Laying
pub mod Rooms
pub mod ReadGroups
pub mod TermGroups
