pub mod Network
pub mod Steady
pub mod Honest
pub mod Sending
pub mod Run
