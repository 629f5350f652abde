pub mod Reading
pub mod Form
pub mod Writing
