pub mod Request
pub mod Shard
pub mod Words
pub mod Desk
pub mod MemoryDesk
