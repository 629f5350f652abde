pub mod Reply
pub mod Session
pub mod Answered
