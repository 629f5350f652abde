pub mod Decision
pub mod Shown
pub mod Begun
pub mod Transfer
pub mod Held
pub mod Shard
pub mod ShardDesk
