pub mod Paths
mod MessageNumbers
mod SignedNumbers
mod Nesting
