pub mod Response
pub mod Writing
pub mod Reading
pub mod Sealed
