pub mod Disk
pub mod Event
pub mod Record
pub mod Log
