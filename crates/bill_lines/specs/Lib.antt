pub mod Bills
pub mod Lines
pub mod Diaries
pub mod Standing
