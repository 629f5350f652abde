pub mod Checked
pub mod GoodChain
pub mod Refusal
pub mod Meeting
pub mod Steps
