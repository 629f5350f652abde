pub mod Scan
pub mod Status
pub mod Fields
pub mod Route
pub mod Plan
