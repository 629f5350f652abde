pub mod Draws
pub mod Roster
pub mod Events
pub mod Run
pub mod Summary
pub mod Progress
