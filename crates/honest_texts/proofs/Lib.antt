pub mod Among
pub mod Chains
pub mod Replies
pub mod Comes
