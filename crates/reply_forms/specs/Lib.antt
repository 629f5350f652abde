pub mod Words
pub mod Body
