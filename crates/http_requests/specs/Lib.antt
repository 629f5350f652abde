pub mod Asked
pub mod Next
pub mod Reading
