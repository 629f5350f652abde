pub mod Opening
pub mod Shard
pub mod View
pub mod Written
