pub mod Members
pub mod DocumentRecord
pub mod Reading
