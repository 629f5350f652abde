pub mod Reply
pub mod Request
pub mod Exchange
pub mod Receiving
