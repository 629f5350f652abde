pub mod Happening
pub mod Parcels
pub mod Script
pub mod Numbers
pub mod Signed
