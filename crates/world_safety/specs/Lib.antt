pub mod Worlds
pub mod Safety
