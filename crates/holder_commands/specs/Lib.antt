pub mod Command
pub mod Form
pub mod Reading
pub mod Writing
