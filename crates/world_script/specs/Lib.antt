pub mod Event
pub mod Form
pub mod Reading
pub mod Writing
