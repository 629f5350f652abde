pub mod Frames
pub mod Framed
pub mod Places
pub mod Journal
