pub mod Alg
pub mod KeyRing
pub mod Compact
pub mod Header
pub mod SignedText
pub mod Refusal
pub mod Steps
