pub mod Distinct
pub mod RosterRecord
pub mod RosterForm
pub mod Index
pub mod Reading
pub mod Writing
