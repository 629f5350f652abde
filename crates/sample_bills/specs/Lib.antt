pub mod Commands
pub mod Documents
pub mod Parties
