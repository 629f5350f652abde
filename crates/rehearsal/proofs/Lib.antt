pub mod Listed
pub mod May
pub mod Going
pub mod Counts
pub mod Words
