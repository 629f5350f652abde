pub mod Contents
pub mod Room
pub mod Settlements
