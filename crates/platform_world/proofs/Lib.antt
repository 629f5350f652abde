mod Grouped
mod Shards
pub mod Counts
mod Writable
mod Asked
mod Listed
mod Machines
mod Attempts
mod Reached
mod Diaries
mod Opened
mod Rings
mod Racks
mod Starting
